use Rattle.std.proofs.Common.{get_or, refl}
use Rattle.std.specs.Prelude.{All}
use Rattle.ix_sheet.specs.Bounds.{Meets}
use Rattle.ix_solve.proofs.Residuals.{feasible}
use Rattle.ix_solve.proofs.Walks.{loop_closed}
use Rattle.ix_solve.proofs.cycle.contradiction.Goals as goal

pub returns-in-Some-clause-some : goal.returns-in-Some-clause-some
returns-in-Some-clause-some c =
    let loop = rw c.as_slice.ensures.value at c.in-Some.ensures in
    rw c.in_ok-vec.ensures.items (loop_closed c.args.network.now.arcs.items c.in-Some.place loop.0 loop.1 loop.2)

pub returns-clause-none : goal.returns-clause-none
returns-clause-none c =
    let net = c.args.network.now in
    let reach = c.settle.new.search.reach.items in
    let met : All (Meets (λ v. get_or reach v 0)) net.arcs.items = (rw c.in-None.is at c.in_ok-place.ensures.settled) refl in
    λ _. feasible net.root net.arcs.items reach c.requires met
