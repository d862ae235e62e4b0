use Rattle.std.proofs.Common.{◌≡◌, ◌++◌, map, take}
use Rattle.ix_net.specs.Tables.{port_of}
use Rattle.ix_net.proofs.tables.add_ports.Given as goal

abbrev pub invariant-loop-port : goal.invariant-loop-port
invariant-loop-port l = map port_of l.signals.items ≡ map port_of l.initial.signals.items ++ take l.port-index l.ports
