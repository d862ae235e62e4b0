use Rattle.std.proofs.Common.{◌≡◌, ◌+◌, ◌≤◌, drop}
use Rattle.rv_rows.specs.Facts.{cells_in}
use Rattle.rv_watch.proofs.placing.count_cells.Given as goal

abbrev pub invariant-loop-cell : goal.invariant-loop-cell
invariant-loop-cell l = (l.count + cells_in (drop l.cell-index l.cells) ≡ cells_in l.fn.cells) × (l.count ≤ l.cell-index)
