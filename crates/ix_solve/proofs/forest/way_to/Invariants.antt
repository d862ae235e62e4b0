use Rattle.std.proofs.Common.{get_or, reverse}
use Rattle.ix_solve.proofs.Forests.{IsTail}
use Rattle.ix_solve.proofs.forest.way_to.Given as goal

abbrev pub invariant-back : goal.invariant-back
invariant-back l = IsTail l.network.bounds l.network.arcs.items (λ v. get_or l.times v 0) l.forest.log.items l.at l.target (reverse l.steps.items)

abbrev pub decreases-back : goal.decreases-back
decreases-back l = l.at
