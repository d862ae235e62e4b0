use Rattle.std.proofs.Common.{◌≡◌, drop}
use Rattle.ix_slots.specs.Spawned.{written_among}
use Rattle.ix_behaviour.specs.Flags.{marked}
use Rattle.ix_resolve.proofs.marks.+written.Given as goal

abbrev pub invariant-mark_all_written-loop-x : goal.invariant-mark_all_written-loop-x
invariant-mark_all_written-loop-x l = marked l.flags (written_among (drop l.x-index l.all)) ≡ marked l.fn.flags (written_among l.all)
