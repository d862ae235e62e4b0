use Rattle.std.proofs.Common.{◌≡◌, drop}
use Rattle.ix_slots.specs.Spawned.{spawned_among}
use Rattle.ix_behaviour.specs.Flags.{marked}
use Rattle.ix_resolve.proofs.marks.+spawned.Given as goal

abbrev pub invariant-mark_all_spawned-loop-x : goal.invariant-mark_all_spawned-loop-x
invariant-mark_all_spawned-loop-x l = marked l.flags (spawned_among (drop l.x-index l.all)) ≡ marked l.fn.flags (spawned_among l.all)
