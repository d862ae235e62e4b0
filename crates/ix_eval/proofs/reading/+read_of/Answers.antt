use Rattle.std.proofs.Common.{◌≡◌, ◌∙◌, ap, sym, ◌++◌, map, option_map}
use Rattle.ix_mean.specs.declared.resolved.ResolvedExpr.{ResolvedExpr}
use Rattle.ix_mean.specs.Meaning.{accesses}
use Rattle.ix_mean.specs.View.{seen, view_expression}
use Rattle.ix_mean.specs.Given.{inputs_of}
use Rattle.ix_eval.specs.Readings.{reading_seen, first_of}
use Rattle.ix_eval.proofs.FirstReads.{first_two}
use Rattle.ix_eval.proofs.reading.+read_of.Goals as goal

pub returns-in-Choose : goal.returns-in-Choose
returns-in-Choose g t c = λ m h.
    let reads = λ (e : ResolvedExpr). accesses (inputs_of c.args.state.now m) (map seen c.args.slots.now) (view_expression c.args.tables.now e) in
    let x = c.deref-in-Choose.result.now in
    let y = c.deref-in-Choose-2.result.now in
    let z = c.deref-in-Choose-3.result.now in
    let two = first_two (option_map reading_seen c.either-in-Choose.result) _ _ (reads x) (reads y) c.either-in-Choose.ensures (c.read_of-in-Choose.ensures m h) (c.read_of-in-Choose-2.ensures m h) in
    let three = first_two (option_map reading_seen c.either-in-Choose-2.result) _ _ (reads x ++ reads y) (reads z) c.either-in-Choose-2.ensures two (c.read_of-in-Choose-3.ensures m h) in
    let p : x ≡ c.in-Choose.c.value = cc in
    let q : y ≡ c.in-Choose.a.value = cc in
    let r : z ≡ c.in-Choose.b.value = cc in
    three
    ∙ ap (λ (e : ResolvedExpr). first_of ((reads e ++ reads y) ++ reads z)) p
    ∙ ap (λ (e : ResolvedExpr). first_of ((reads c.in-Choose.c.value ++ reads e) ++ reads z)) q
    ∙ ap (λ (e : ResolvedExpr). first_of ((reads c.in-Choose.c.value ++ reads c.in-Choose.a.value) ++ reads e)) r
    ∙ sym (ap (λ (e : ResolvedExpr). first_of (reads e)) c.in-Choose.is)
