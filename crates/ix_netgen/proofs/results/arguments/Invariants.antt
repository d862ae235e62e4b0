use Rattle.std.proofs.Common.{take}
use Rattle.ix_netgen.specs.KeptWires.{Supplies}
use Rattle.ix_netgen.proofs.results.arguments.Given as goal

abbrev pub invariant-loop-arg : goal.invariant-loop-arg
invariant-loop-arg l = Supplies l.ops l.kept l.time (take l.arg-index l.args) l.initial.net l.net l.operands.items
