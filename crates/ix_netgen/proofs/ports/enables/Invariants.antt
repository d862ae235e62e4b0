use Rattle.std.proofs.Common.{◌≡◌, ◌-◌, ◌++◌, map}
use Rattle.std.specs.List.{range_with_len}
use Rattle.ix_ports.specs.Ports.{enable_port, enable_ports}
use Rattle.ix_netgen.proofs.ports.enables.Given as goal

abbrev pub invariant-loop-time : goal.invariant-loop-time
invariant-loop-time l = l.ports.items ++ map enable_port (range_with_len l.time (l.last - l.time)) ≡ enable_ports l.rd l.last
