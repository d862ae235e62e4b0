use Rattle.std.proofs.Common.{List, ◌++◌, ◌+◌, drop, map, ap, ◌∙◌, sym}
use Rattle.ix_tree.specs.declared.stmt.Decl.{Decl}
use Rattle.ix_tree.specs.View.{view_decl}
use Rattle.ix_tree.specs.Unrolling.{put_decl}
use Rattle.ix_unroll.specs.Scopes.{bindings}
use Rattle.ix_unroll.proofs.Mapped.{mapped_step, mapped_end, map_twice}
use Rattle.ix_unroll.proofs.put.put_decls.Goals as goal

pub loop-decl-preserved : goal.loop-decl-preserved
loop-decl-preserved c =
    let made = λ (d : Decl). put_decl (bindings c.args.scope.now) (view_decl d) in
    let xs = c.args.decls.now in
    let k = c.loop-decl.decl-index in
    ap (λ (ys : List Decl). map view_decl ys ++ map made (drop (k + 1) xs)) c.in_ok-put.ensures
    ∙ mapped_step view_decl made c.loop-decl.all.items xs k c.decl-item.result c.in_ok-decl.decl c.loop-decl-test.true c.decl-item.is c.in_ok-decl.ensures
    ∙ c.loop-decl.invariant

pub returns : goal.returns
returns c =
    let bs = bindings c.args.scope.now in
    let made = λ (d : Decl). put_decl bs (view_decl d) in
    let xs = c.args.decls.now in
    ap (map view_decl) c.from_vec.ensures
    ∙ mapped_end view_decl made c.loop-decl.all.items xs c.loop-decl.decl-index c.loop-decl-test.false c.loop-decl.invariant
    ∙ sym (map_twice view_decl (put_decl bs) xs)
