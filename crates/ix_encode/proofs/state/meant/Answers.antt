use Rattle.std.proofs.Common.{◌∙◌, sym, ap, [], ◌∷◌, ◌++◌, map}
use Rattle.std.proofs.lemmas.List.{map_push}
use Rattle.ix_tree.specs.TypedView.{typed_state}
use Rattle.ix_extension.specs.Extensions.{registers_of, tables_of}
use Rattle.ix_encode.proofs.Gathered.{registers_push, tables_push}
use Rattle.ix_encode.proofs.state.meant.Goals as goal

pub loop-state-preserved : goal.loop-state-preserved
loop-state-preserved c =
    let ys = map typed_state c.loop-state.yielded in
    let x = typed_state c.in-Some.state ∷ [] in
    let e = map_push typed_state c.loop-state.yielded c.in-Some.state in
    record {
      registers = c.in-Ok.ensures.registers ∙ ap (λ z. z ++ registers_of x) c.loop-state.invariant.registers ∙ sym (registers_push ys x) ∙ sym (ap registers_of e);
      tables = c.in-Ok.ensures.tables ∙ ap (λ z. z ++ tables_of x) c.loop-state.invariant.tables ∙ sym (tables_push ys x) ∙ sym (ap tables_of e);
    }
