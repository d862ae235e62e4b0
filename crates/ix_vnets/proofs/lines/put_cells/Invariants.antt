use Rattle.std.proofs.Common.{take}
use Rattle.std.specs.List.{AllZip}
use Rattle.ix_vnets.specs.Tables.{IsCellBy}
use Rattle.ix_vnets.proofs.lines.put_cells.Given as goal

abbrev pub invariant-loop-number : goal.invariant-loop-number
invariant-loop-number l = AllZip (IsCellBy l.widths) (take l.number l.assigns) l.cells
