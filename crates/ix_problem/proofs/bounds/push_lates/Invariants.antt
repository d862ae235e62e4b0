use Rattle.std.proofs.Common.{◌≡◌, ◌++◌, map}
use Rattle.std.specs.List.{range_with_len}
use Rattle.ix_sheet.specs.declared.problem.Bound.TheVariants.{Late}
use Rattle.ix_problem.proofs.bounds.push_lates.Given as goal

abbrev pub invariant-ops : goal.invariant-ops
invariant-ops l = l.bounds ≡ l.initial.bounds ++ map Late (range_with_len 0 l.op)
