use Rattle.std.proofs.Common.{◌≡◌, ◌++◌, take}
use Rattle.std.specs.Prelude.{All}
use Rattle.std.specs.List.{flat_map}
use Rattle.ix_vprint.specs.Short.{IsShort}
use Rattle.ix_vprint.specs.Printed.{cell_text}
use Rattle.ix_vprint.proofs.printing.put_cells.Given as goal

abbrev pub invariant-loop-cell : goal.invariant-loop-cell
invariant-loop-cell l = record {
  so_far : l.out.items ≡ l.initial.out.items ++ flat_map cell_text (take l.cell-index l.cells);
  short : All (λ c. IsShort c.target) (take l.cell-index l.cells);
}
