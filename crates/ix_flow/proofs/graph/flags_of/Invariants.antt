use Rattle.std.proofs.Common.{◌≡◌, ◌++◌, map, drop}
use Rattle.ix_flow.specs.Flows.{flag_of}
use Rattle.ix_flow.proofs.graph.flags_of.Given as goal

abbrev pub invariant-loop-op : goal.invariant-loop-op
invariant-loop-op l = l.out.items ++ map (flag_of l.spawned) (drop l.op-index l.ops) ≡ map (flag_of l.spawned) l.ops
