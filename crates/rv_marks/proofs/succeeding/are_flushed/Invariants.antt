use Rattle.std.proofs.Common.{◌≡◌, drop}
use Rattle.rv_marks.specs.Turns.{all_flushed}
use Rattle.rv_marks.proofs.succeeding.are_flushed.Given as goal

abbrev pub invariant-loop-cell : goal.invariant-loop-cell
invariant-loop-cell l = all_flushed l.row (drop l.cell-index l.cells) ≡ all_flushed l.fn.row l.fn.cells
