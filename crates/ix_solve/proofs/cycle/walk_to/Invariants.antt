use Rattle.std.proofs.Common.{get_or}
use Rattle.ix_solve.proofs.Walks.{IsWalk}
use Rattle.ix_solve.proofs.cycle.walk_to.Given as goal

abbrev pub invariant-back : goal.invariant-back
invariant-back l = IsWalk l.network.arcs.items l.search.log.items l.node (get_or l.search.reach.items l.node 0) l.at l.walk.items

abbrev pub decreases-back : goal.decreases-back
decreases-back l = l.at
