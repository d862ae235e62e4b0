use Rattle.std.proofs.Common.{◌≡◌, ◌+◌, ◌≤◌, drop, length}
use Rattle.ix_dump.specs.Dump.{dump_ports, modules_text}
use Rattle.ix_dump.proofs.Passing.{PartOf}
use Rattle.ix_dump.proofs.head.write_modules.Given as goal

abbrev pub invariant-loop-net : goal.invariant-loop-net
invariant-loop-net g l = record {
  part : PartOf (g.S.Sink.written l.fn.sink) (g.S.Sink.written l.sink) l.fn.out l.out (modules_text l.first (drop l.net-index l.nets)) (modules_text 0 l.nets);
  count : l.first + length (dump_ports (drop l.net-index l.nets)) ≡ length (dump_ports l.nets);
  never_fell : g.S.Sink.faults l.fn.sink ≤ g.S.Sink.faults l.sink;
}
