use Rattle.std.proofs.Common.{◌≡◌, ◌<◌, ◌≤◌, ℕ, length, get_or, None, false}
use Rattle.std.specs.Prelude.{if◌then◌else◌}
use Rattle.rv_seq.specs.declared.commit.Slot.TheVariants.{Absent}
use Rattle.rv_seq.specs.States.{zero_bit}
use Rattle.rv_seq.specs.Commits.{slot_of, with_slot}
use Rattle.rv_tried.proofs.parts.put_natives.Given as goal

abbrev pub invariant-loop-number : goal.invariant-loop-number
invariant-loop-number l = record {
  long : length l.file ≡ 16;
  done : (r : ℕ) → r < l.number → get_or l.file r zero_bit ≡ with_slot (get_or l.fn.file r zero_bit) (if get_or l.spawned r false then slot_of (get_or l.blocks r None) else get_or l.slots r Absent);
  rest : (r : ℕ) → l.number ≤ r → get_or l.file r zero_bit ≡ get_or l.fn.file r zero_bit;
}
