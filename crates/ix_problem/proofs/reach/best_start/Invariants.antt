use Rattle.std.proofs.Common.{◌≡◌, drop, None}
use Rattle.ix_problem.specs.Reaches.{best_of}
use Rattle.ix_problem.proofs.reach.best_start.Given as goal

abbrev pub invariant-starts : goal.invariant-starts
invariant-starts l = best_of l.reaches l.best (drop l.start-index l.starts) ≡ best_of l.reaches None l.starts
