use Rattle.std.proofs.Common.{◌≡◌, drop}
use Rattle.rv_marks.specs.Turns.{flushed_by}
use Rattle.rv_marks.proofs.succeeding.are_struck.Given as goal

abbrev pub invariant-loop-serial : goal.invariant-loop-serial
invariant-loop-serial l = flushed_by l.execute l.last l.cells (drop l.serial-index l.flushed) ≡ flushed_by l.fn.execute l.fn.last l.fn.cells l.fn.flushed
