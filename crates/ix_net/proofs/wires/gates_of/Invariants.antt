use Rattle.std.proofs.Common.{◌≡◌, All, map, take}
use Rattle.ix_net.specs.declared.netlist.Cell.{Cell}
use Rattle.ix_net.specs.Signals.{width_of}
use Rattle.ix_net.specs.Forms.{Fits}
use Rattle.ix_net.specs.Wiring.{cell_gate}
use Rattle.ix_net.proofs.wires.gates_of.Given as goal

abbrev pub invariant-loop-cell : goal.invariant-loop-cell
invariant-loop-cell l = record {
  fit : All (λ (c : Cell). Fits (width_of l.table) c.width c.form) (take l.cell-index l.cells);
  made : l.gates.items ≡ map (cell_gate l.table) (take l.cell-index l.cells);
}
