use Rattle.std.proofs.Common.{◌≡◌, drop}
use Rattle.ix_problem.specs.Reaches.{passed_at}
use Rattle.ix_problem.proofs.chains.passed_before.Given as goal

abbrev pub invariant-starts : goal.invariant-starts
invariant-starts l = passed_at l.period l.reaches (drop l.start-index l.starts) ≡ passed_at l.period l.reaches l.starts
