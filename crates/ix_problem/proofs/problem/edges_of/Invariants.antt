use Rattle.std.proofs.Common.{◌≡◌, ◌++◌, drop}
use Rattle.ix_sheet.specs.Behaviours.{edges_from}
use Rattle.ix_problem.proofs.problem.edges_of.Given as goal

abbrev pub invariant-ops : goal.invariant-ops
invariant-ops l = l.edges ++ edges_from l.to (drop l.to l.ops) ≡ edges_from 0 l.ops
