use Rattle.std.proofs.Common.{◌≡◌, ◌++◌, take}
use Rattle.std.specs.Prelude.{All}
use Rattle.ix_net.specs.Valid.{IsWidth}
use Rattle.ix_vprint.specs.Printed.{wires_text}
use Rattle.ix_vprint.proofs.printing.put_wires.Given as goal

abbrev pub invariant-loop-cell : goal.invariant-loop-cell
invariant-loop-cell l = record {
  so_far : l.out.items ≡ l.initial.out.items ++ wires_text l.outputs (take l.cell-index l.cells);
  widths : All (λ c. IsWidth c.width) l.cells;
}
