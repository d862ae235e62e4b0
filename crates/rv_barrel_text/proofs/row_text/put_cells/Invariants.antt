use Rattle.std.proofs.Common.{◌≡◌, ◌≤◌, ◌+◌, ◌*◌, ◌++◌, drop, length}
use Rattle.std.specs.List.{flat_map}
use Rattle.rv_barrel_text.specs.BarrelRowText.{cell_text}
use Rattle.rv_barrel_text.proofs.row_text.put_cells.Given as goal

abbrev pub invariant-loop-cell : goal.invariant-loop-cell
invariant-loop-cell l = record {
  text : l.out ++ flat_map cell_text (drop l.cell-index l.cells) ≡ l.fn.out ++ flat_map cell_text l.cells;
  few : length l.out ≤ length l.fn.out + 47 * l.cell-index;
}
