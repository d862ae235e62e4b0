use Rattle.std.proofs.Common.{◌≡◌, refl, map, length}
use Rattle.ix_sheet.specs.Bounds.{IsContradiction}
use Rattle.ix_residual.specs.Residuals.{bound_at}
use Rattle.ix_solve.specs.Search.{IsClosed, IsFeasible, IsFramed}
use Rattle.ix_solve.proofs.Links.{arcs_for, contradiction}
use Rattle.ix_sweep.proofs.Feasible.{schedule_from}
use Rattle.ix_sweep.proofs.contradicted.contradicted.Goals as goal

pub returns-in-Some : goal.returns-in-Some
returns-in-Some c =
    let p = c.args.p.now in
    let bounds = c.in_ok-bounds.bounds in
    let some = rw c.in-Some.is at c.in_ok-places.ensures.some in
    let arcs : c.in_ok-network.network.arcs.items ≡ arcs_for p bounds = rw c.as_slice.ensures at c.in_ok-network.ensures.arcs.0 in
    let closed : IsClosed (arcs_for p bounds) c.in-Some.places.items = rw arcs at some in
    let bad : IsContradiction p (map (bound_at bounds) c.in-Some.places.items) = contradiction p bounds c.in-Some.places.items c.in_ok-bounds.ensures.are.of closed in
    let cycle : c.in_ok-cycle-in-Some.cycle ≡ map (bound_at bounds) c.in-Some.places.items
    = rw (c.as_slice-in-Some.ensures, c.as_slice-in-Some-2.ensures.value) at c.in_ok-cycle-in-Some.ensures in
    rw cycle bad

pub returns : goal.returns
returns c =
    let p = c.args.p.now in
    let bounds = c.in_ok-bounds.bounds in
    let network = c.in_ok-network.network in
    let root : network.root ≡ length p.ops = c.in_ok-network.ensures.root in
    let arcs : network.arcs.items ≡ arcs_for p bounds = rw c.as_slice.ensures at c.in_ok-network.ensures.arcs.0 in
    let framed : IsFramed (length p.ops) network.arcs.items = rw root at c.in_ok-network.ensures.network.framed in
    let met : IsFeasible network.root network.arcs.items = c.in_ok-places.ensures.none (rw c.in-None.is refl) in
    let feasible : IsFeasible (length p.ops) network.arcs.items = rw root at met in
    schedule_from p bounds network.arcs.items c.in_ok-bounds.ensures.legal arcs framed feasible
