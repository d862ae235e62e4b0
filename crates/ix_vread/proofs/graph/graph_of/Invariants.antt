use Rattle.std.proofs.Common.{◌≡◌, map, take}
use Rattle.ix_net.specs.declared.netlist.Cell.{Cell}
use Rattle.ix_net.specs.Forms.{operands}
use Rattle.ix_vread.specs.Graphs.{read_by, cell_of}
use Rattle.ix_vread.proofs.graph.graph_of.Given as goal

abbrev pub invariant-loop-cell : goal.invariant-loop-cell
invariant-loop-cell l = l.graph.items ≡ map (λ (c : Cell). read_by (cell_of l.cells) (operands c.form)) (take l.cell-index l.cells)
