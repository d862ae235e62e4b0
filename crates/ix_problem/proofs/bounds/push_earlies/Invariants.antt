use Rattle.std.proofs.Common.{◌≡◌, ◌++◌, map}
use Rattle.std.specs.List.{range_with_len}
use Rattle.ix_sheet.specs.declared.problem.Bound.TheVariants.{Early}
use Rattle.ix_problem.proofs.bounds.push_earlies.Given as goal

abbrev pub invariant-ops : goal.invariant-ops
invariant-ops l = l.bounds ≡ l.initial.bounds ++ map Early (range_with_len 0 l.op)
