use Rattle.std.proofs.Common.{◌≡◌, ◌<◌, ◌≤◌, ℕ, length, get_or}
use Rattle.rv_seq.specs.declared.commit.Slot.TheVariants.{Absent}
use Rattle.rv_seq.specs.States.{zero_bit}
use Rattle.rv_seq.specs.Commits.{with_slot}
use Rattle.rv_seq.proofs.applying.put_customs.Given as goal

abbrev pub invariant-loop-number : goal.invariant-loop-number
invariant-loop-number l = record {
  long : length l.file ≡ 16;
  done : (r : ℕ) → r < l.number → get_or l.file r zero_bit ≡ with_slot (get_or l.fn.file r zero_bit) (get_or l.slots r Absent);
  rest : (r : ℕ) → l.number ≤ r → get_or l.file r zero_bit ≡ get_or l.fn.file r zero_bit;
}
