use Rattle.std.proofs.Common.{◌≡◌, ◌+◌, ◌-◌, ◌/◌, ◌^◌, ◌≤◌, ◌++◌, vec_len}
use Rattle.std.specs.Vec.{vec_capacity}
use Rattle.ix_io.specs.Out.{hex_digits}
use Rattle.ix_io.proofs.out.Out.hex.Given as goal

-- the digits above the last `left` stand behind the bytes of before
abbrev pub invariant-loop-left : goal.invariant-loop-left
invariant-loop-left l = record {
  within : l.left ≤ l.digits;
  length : vec_len l.self-inside.bytes + l.left ≡ vec_len l.initial.self-inside.bytes + l.digits;
  capacity : 65536 ≤ vec_capacity l.self-inside.bytes;
  items : l.self-inside.bytes.items
      ≡ l.initial.self-inside.bytes.items ++ hex_digits (l.digits - l.left) (l.pattern.raw / 16 ^ l.left);
}

abbrev pub decreases-loop-left : goal.decreases-loop-left
decreases-loop-left l = l.left
