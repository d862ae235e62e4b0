use Rattle.std.proofs.Common.{◌≡◌, map, arith}
use Rattle.ix_sheet.specs.Bounds.{IsContradiction}
use Rattle.ix_sheet.proofs.Cycles.{no_schedule}
use Rattle.ix_residual.specs.Residuals.{bound_at}
use Rattle.ix_solve.specs.Search.{IsClosed}
use Rattle.ix_solve.proofs.Balanced.{even_balances}
use Rattle.ix_solve.proofs.Links.{arcs_for, contradiction}
use Rattle.ix_solve.proofs.Meeting.{optimal}
use Rattle.ix_solve.proofs.schedule.solve_traced.Goals as goal

pub returns-in-Some-clause-refused : goal.returns-in-Some-clause-refused
returns-in-Some-clause-refused c =
    let p = c.args.p.now in
    let bounds = c.in_ok-bounds.bounds in
    let some = rw c.in-Some.is at c.in_ok-places.ensures.some in
    let arcs : c.in_ok-network.network.arcs.items ≡ arcs_for p bounds = rw c.as_slice.ensures at c.in_ok-network.ensures.arcs.0 in
    let closed : IsClosed (arcs_for p bounds) c.in-Some.places.items = rw arcs at some in
    let bad : IsContradiction p (map (bound_at bounds) c.in-Some.places.items) = contradiction p bounds c.in-Some.places.items c.in_ok-bounds.ensures.are.of closed in
    let cycle : c.in_ok-cycle_of.field-0 ≡ map (bound_at bounds) c.in-Some.places.items
    = rw (c.as_slice-in-Some.ensures, c.as_slice-in-Some-2.ensures.value) at c.in_ok-cycle_of.ensures in
    rw cycle (bad, λ some. no_schedule p c.requires (map (bound_at bounds) c.in-Some.places.items) bad some.0 some.1)

pub answer-requires-clause-optimal : goal.answer-requires-clause-optimal
answer-requires-clause-optimal c =
    let p = c.args.p.now in
    let bounds = c.in_ok-bounds.bounds in
    let met = c.in_ok-residual.ensures in
    let is = optimal p bounds c.meet.new.network c.in_ok-residual.field-0 c.in_ok-times.times.items met c.in_ok-times.ensures in
    rw (c.as_slice-2.ensures, c.as_slice-3.ensures, met.state.bounds_same) is

pub returns-clause-few : goal.returns-clause-few
returns-clause-few c =
    let met = c.in_ok-residual.ensures in
    omega (arith, met.replay.few, (even_balances c.args.p.now c.requires).2)
