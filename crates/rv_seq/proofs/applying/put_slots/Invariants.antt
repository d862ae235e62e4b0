use Rattle.std.proofs.Common.{◌≡◌, ◌<◌, ℕ, length, get_or, None}
use Rattle.rv_seq.specs.declared.commit.Slot.TheVariants.{Absent}
use Rattle.rv_seq.specs.Commits.{slot_of}
use Rattle.rv_seq.proofs.applying.put_slots.Given as goal

abbrev pub invariant-loop-number : goal.invariant-loop-number
invariant-loop-number l = (length l.slots ≡ 16) × ((r : ℕ) → r < l.number → get_or l.slots r Absent ≡ slot_of (get_or l.values r None))
