use Rattle.std.proofs.Common.{◌+◌, ◌≤◌, drop}
use Rattle.ix_dump.specs.Dump.{port_lines}
use Rattle.ix_dump.proofs.Passing.{PartOf}
use Rattle.ix_dump.proofs.head.write_ports.Given as goal

abbrev pub invariant-loop-i : goal.invariant-loop-i
invariant-loop-i g l = record {
  part : PartOf (g.S.Sink.written l.fn.sink) (g.S.Sink.written l.sink) l.fn.out l.out (port_lines (l.first + l.i) (drop l.i l.ports)) (port_lines l.first l.ports);
  never_fell : g.S.Sink.faults l.fn.sink ≤ g.S.Sink.faults l.sink;
}
