use Rattle.std.proofs.Common.{get_or, reverse}
use Rattle.ix_solve.proofs.Trails.{IsTrail}
use Rattle.ix_solve.proofs.longest.trail.Given as goal

abbrev pub invariant-back : goal.invariant-back
invariant-back l = IsTrail l.search.reach.items l.search.log.items (λ v. get_or l.search.reach.items v 0) l.target l.at (reverse l.trail.items)

abbrev pub decreases-back : goal.decreases-back
decreases-back l = l.at
