use Rattle.std.proofs.Common.{List, ◌++◌, take}
use Rattle.ix_net.specs.declared.netlist.Port.{Port}
use Rattle.ix_vnets.specs.WidthTables.{AreApart, Holds}
use Rattle.ix_vnets.proofs.table.put.Given as goal

abbrev pub invariant-loop-port : goal.invariant-loop-port
invariant-loop-port l = (front : List Port) → AreApart (front ++ l.ports) → Holds front l.initial.widths → Holds (front ++ take l.port-index l.ports) l.widths
