use Rattle.std.proofs.Common.{◌≡◌, drop}
use Rattle.rv_marks.specs.Marks.{no_marks}
use Rattle.rv_marks.proofs.still.no_marks.Given as goal

abbrev pub invariant-loop-one : goal.invariant-loop-one
invariant-loop-one l = no_marks l.marks ≡ no_marks (drop l.one-index l.marks)
