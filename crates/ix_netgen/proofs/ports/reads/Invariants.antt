use Rattle.std.proofs.Common.{◌≡◌, ◌++◌, drop}
use Rattle.ix_ports.specs.Ports.{read_ports}
use Rattle.ix_netgen.proofs.ports.reads.Given as goal

abbrev pub invariant-loop-number : goal.invariant-loop-number
invariant-loop-number l = l.ports.items ++ read_ports l.number (drop l.number l.ops) ≡ l.initial.ports.items ++ read_ports 0 l.ops
