use Rattle.std.proofs.Common.{◌≡◌, ◌+◌, drop, length}
use Rattle.ix_dump.specs.Dump.{dump_ports}
use Rattle.ix_dump.proofs.head.count_ports.Given as goal

abbrev pub invariant-loop-net : goal.invariant-loop-net
invariant-loop-net l = l.count + length (dump_ports (drop l.net-index l.nets)) ≡ length (dump_ports l.nets)
