use Rattle.std.proofs.Common.{◌≡◌, ◌+◌, ◌≤◌, length, take, filter}
use Rattle.std.specs.Prelude.{nat_eq}
use Rattle.ix_vread.proofs.place.line_at.Given as goal

abbrev pub invariant-loop-byte : goal.invariant-loop-byte
invariant-loop-byte l = record {
  counted : l.line ≡ 1 + length (filter (λ b. nat_eq b 10) (take l.byte-index l.byte-items));
  few : l.line ≤ l.byte-index + 1;
}
