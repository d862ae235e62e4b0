use Rattle.std.proofs.Common.{◌≡◌, ◌+◌, ◌≤◌, drop}
use Rattle.rv_watch.specs.Places.{was_flushed, lowering}
use Rattle.rv_watch.proofs.placing.count_marks.Given as goal

abbrev pub invariant-loop-mark : goal.invariant-loop-mark
invariant-loop-mark l =
    (l.count + lowering (was_flushed l.seen) (drop l.mark-index l.marks) l.serial ≡ lowering (was_flushed l.seen) l.fn.marks l.serial) × (l.count ≤ l.mark-index)
