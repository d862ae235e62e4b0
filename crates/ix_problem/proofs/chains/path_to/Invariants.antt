use Rattle.std.proofs.Common.{◌≡◌, reverse, is_some, true}
use Rattle.ix_problem.specs.Reaches.{reach_at, IsTrail}
use Rattle.ix_problem.proofs.chains.path_to.Given as goal

abbrev pub invariant-back : goal.invariant-back
invariant-back l = IsTrail l.reaches l.source l.at l.end (reverse l.path.items) × (is_some (reach_at l.reaches l.at) ≡ true)

abbrev pub decreases-back : goal.decreases-back
decreases-back l = l.at
