use Rattle.std.proofs.Common.{◌≡◌, ◌+◌, ◌-◌, ◌/◌, ◌^◌, ◌≤◌, ◌++◌, length}
use Rattle.ix_dump.specs.Dump.{binary_digits}
use Rattle.ix_dump.proofs.lines.put_bits.Given as goal

-- the digits above the last `left` stand behind the bytes of before
abbrev pub invariant-loop-left : goal.invariant-loop-left
invariant-loop-left l = record {
  within : l.left ≤ l.value.width;
  count : length l.out + l.left ≡ length l.fn.out + l.value.width;
  text : l.out ≡ l.fn.out ++ binary_digits (l.value.width - l.left) (l.value.raw / 2 ^ l.left);
}

abbrev pub decreases-loop-left : goal.decreases-loop-left
decreases-loop-left l = l.left
