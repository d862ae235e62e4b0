use Rattle.std.proofs.Common.{◌≡◌, ℕ, [], length, get_or}
use Rattle.ix_vread.proofs.readers.no_readers.Given as goal

abbrev pub invariant-cells : goal.invariant-cells
invariant-cells l = record {
  size : length l.readers.items ≡ l.counter;
  none : (a : ℕ) → get_or l.readers.items a [] ≡ [];
}
