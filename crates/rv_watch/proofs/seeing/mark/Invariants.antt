use Rattle.std.proofs.Common.{List, drop}
use Rattle.rv_watch.specs.declared.seen.Seen.{Seen}
use Rattle.rv_watch.specs.Seeing.{AreMarked}
use Rattle.rv_watch.proofs.seeing.mark.Given as goal

abbrev pub invariant-loop-one : goal.invariant-loop-one
invariant-loop-one l = (end : List Seen) → AreMarked (drop l.one-index l.marks) l.seen end → AreMarked l.fn.marks l.fn.seen end
