use Rattle.std.proofs.Common.{◌≡◌, ◌++◌, map, drop}
use Rattle.std.specs.List.{zip}
use Rattle.ix_sheet.specs.Behaviours.{node_of}
use Rattle.ix_problem.proofs.problem.nodes_of.Given as goal

abbrev pub invariant-ops : goal.invariant-ops
invariant-ops l = l.nodes ++ map (node_of l.sheet l.mode) (zip (drop l.at l.ops) (drop l.at l.spawned)) ≡ map (node_of l.sheet l.mode) (zip l.ops l.spawned)
