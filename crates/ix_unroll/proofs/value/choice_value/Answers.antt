use Rattle.std.proofs.Common.{cond, ap, ◌∙◌, Bool, Some, sym}
use Rattle.ix_tree.specs.LoopHeads.{Valued}
use Rattle.ix_unroll.specs.Values.{seen}
use Rattle.ix_unroll.proofs.Typed.{chosen_is}
use Rattle.ix_unroll.proofs.value.choice_value.Goals as goal

pub returns-then-holds : goal.returns-then-holds
returns-then-holds c =
    let k = c.in-Some-Some-Some in
    rw (k.is-0, k.is-1, k.is-2) (ap (λ (v : Valued). Some v) c.embedded.ensures ∙ chosen_is (seen k.c) (seen k.x) (seen k.y) c.in-Ok.ty (seen k.x).number c.in-Ok.ensures.ok
    (ap (λ (t : Bool). cond t (seen k.x).number (seen k.y).number) (sym c.holds.ensures ∙ c.if-holds.true)))

pub returns-else-holds : goal.returns-else-holds
returns-else-holds c =
    let k = c.in-Some-Some-Some in
    rw (k.is-0, k.is-1, k.is-2) (ap (λ (v : Valued). Some v) c.embedded-else-holds.ensures ∙ chosen_is (seen k.c) (seen k.x) (seen k.y) c.in-Ok.ty (seen k.y).number c.in-Ok.ensures.ok
    (ap (λ (t : Bool). cond t (seen k.x).number (seen k.y).number) (sym c.holds.ensures ∙ c.if-holds.false)))
