use Rattle.std.proofs.Common.{◌≡◌, drop}
use Rattle.rv_marks.specs.Marks.{lacks}
use Rattle.rv_marks.proofs.moving.lacks.Given as goal

abbrev pub invariant-loop-cell : goal.invariant-loop-cell
invariant-loop-cell l = lacks l.serial (drop l.cell-index l.cells) ≡ lacks l.serial l.fn.cells
