use Rattle.std.proofs.Common.{◌+◌, ◌∙◌, sym, ap, drop, arith}
use Rattle.rv_unit.specs.Numbering.{lasts_of, with_last}
use Rattle.rv_unit.specs.Timed.{room}
use Rattle.rv_unit.proofs.Numbered.{lasts_rest}
use Rattle.rv_unit.proofs.Fewer.{room_few}
use Rattle.rv_engine.proofs.owing.places_of.Goals as goal

pub overflow_add-places : goal.overflow_add-places
overflow_add-places c =
    let plans = c.args.plans.now in
    let p = c.plan-item.result in
    let rest = ap (λ l. room c.args.stages l) (lasts_rest plans c.loop-plan.plan-index p c.loop-plan-test.true c.plan-item.is ∙ ap (λ b. with_last b p.last (lasts_of (drop (c.loop-plan.plan-index + 1) plans))) (sym c.if-is_decoupled.ensures)) in
    let few = room_few c.args.stages (lasts_of plans) c.requires in
    let inv = c.loop-plan.invariant in
    let a = c.saturating_sub-places.ensures in
    let b = c.from.ensures in
    let d = c.from-then-is_decoupled.ensures in
    omega (arith, rest, few, inv, a, b, d)
