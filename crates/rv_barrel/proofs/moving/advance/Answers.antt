use Rattle.std.proofs.Common.{◌≡◌, ◌∙◌, ◌+◌, ◌-◌, ap, subst, take, drop, length, get_or, arith}
use Rattle.std.specs.Prelude.{None, Option, slice_set}
use Rattle.std.proofs.lemmas.List.{length-set}
use Rattle.rv_barrel.specs.declared.cell.InFlight.{InFlight}
use Rattle.rv_barrel.specs.Cells.{Slots}
use Rattle.rv_barrel.specs.Moving.{going, advanced}
use Rattle.rv_barrel.proofs.Going.{advanced_more, front_more, advanced_first}
use Rattle.rv_barrel.proofs.moving.advance.Goals as goal

pub loop-stage-preserved : goal.loop-stage-preserved
loop-stage-preserved c =
    let gone = c.args.gone in
    let n = c.loop-stage.stage - 1 in
    let now = c.loop-stage.slots in
    let old = c.args.slots.now in
    let new = c.come_at.new.slots in
    let e : c.loop-stage.stage ≡ n + 1 = omega (arith, c.loop-stage-test.true) in
    let front : take (n + 1) now ≡ take (n + 1) old = subst (λ m. take m now ≡ take m old) e c.loop-stage.invariant.rest in
    let back : drop (n + 1) now ≡ advanced gone (n + 1) (going gone n (get_or old n None)) (drop (n + 1) old) = subst (λ m. drop m now ≡ advanced gone m (going gone n (get_or old n None)) (drop m old)) e c.loop-stage.invariant.done in
    record {
      done = advanced_more gone n now old new (omega (arith, c.loop-stage-test.true)) (omega (arith, c.loop-stage-test.true, c.loop-stage.auto.stage)) c.loop-stage.invariant.long front back c.come_at.ensures;
      rest = front_more n now old new (going gone (n - 1) (get_or now (n - 1) None)) front c.come_at.ensures;
      least = omega (arith, c.loop-stage-test.true);
      long = ap (λ (l : Slots). length l) c.come_at.ensures ∙ length-set now n (going gone (n - 1) (get_or now (n - 1) None)) ∙ c.loop-stage.invariant.long;
    }

pub returns : goal.returns
returns c =
    let gone = c.args.gone in
    let now = c.loop-stage.slots in
    let old = c.args.slots.now in
    let e : c.loop-stage.stage ≡ 1 = omega (arith, c.loop-stage-test.false, c.loop-stage.invariant.least) in
    let back : drop 1 now ≡ advanced gone 1 (going gone 0 (get_or old 0 None)) (drop 1 old) = subst (λ m. drop m now ≡ advanced gone m (going gone (m - 1) (get_or old (m - 1) None)) (drop m old)) e c.loop-stage.invariant.done in
    ap (λ (t : Option InFlight). slice_set now 0 t) c.free_slot.ensures ∙ advanced_first gone now old c.requires c.loop-stage.invariant.long back
