use Rattle.std.proofs.Common.{◌≡◌, ◌<◌, ◌≤◌, ℕ, length, get_or, false}
use Rattle.std.specs.Prelude.{if◌then◌else◌}
use Rattle.rv_seq.specs.declared.commit.Slot.TheVariants.{Absent, Later}
use Rattle.rv_tried.proofs.parts.show_customs.Given as goal

abbrev pub invariant-loop-number : goal.invariant-loop-number
invariant-loop-number l = record {
  long : length l.slots ≡ 16;
  done : (r : ℕ) → r < l.number → get_or l.slots r Absent ≡ (if get_or l.spawned r false then Later else get_or l.fn.slots r Absent);
  rest : (r : ℕ) → l.number ≤ r → get_or l.slots r Absent ≡ get_or l.fn.slots r Absent;
}
