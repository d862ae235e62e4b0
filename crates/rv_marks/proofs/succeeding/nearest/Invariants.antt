use Rattle.std.proofs.Common.{◌≡◌, drop, None}
use Rattle.rv_marks.specs.Turns.{nearest_from}
use Rattle.rv_marks.proofs.succeeding.nearest.Given as goal

abbrev pub invariant-loop-cell : goal.invariant-loop-cell
invariant-loop-cell l = nearest_from l.found (drop l.cell-index l.cells) ≡ nearest_from None l.fn.cells
