use Rattle.std.proofs.Common.{◌≡◌, drop}
use Rattle.rv_marks.specs.Marks.{flushed_free}
use Rattle.rv_marks.proofs.moving.are_flushed_free.Given as goal

abbrev pub invariant-loop-cell : goal.invariant-loop-cell
invariant-loop-cell l = flushed_free l.row (drop l.cell-index l.cells) ≡ flushed_free l.fn.row l.fn.cells
