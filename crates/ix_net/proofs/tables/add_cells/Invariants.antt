use Rattle.std.proofs.Common.{◌≡◌, ◌++◌, map, take}
use Rattle.ix_net.specs.Signals.{cell_port}
use Rattle.ix_net.specs.Tables.{port_of}
use Rattle.ix_net.proofs.tables.add_cells.Given as goal

abbrev pub invariant-loop-cell : goal.invariant-loop-cell
invariant-loop-cell l = map port_of l.signals.items ≡ map port_of l.initial.signals.items ++ map cell_port (take l.cell-index l.cells)
