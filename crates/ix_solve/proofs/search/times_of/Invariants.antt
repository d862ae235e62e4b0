use Rattle.std.proofs.Common.{◌≡◌, ℕ, ◌+◌, ◌<◌, get_or, length}
use Rattle.ix_solve.proofs.search.times_of.Given as goal

abbrev pub invariant-reaches : goal.invariant-reaches
invariant-reaches l = record {
  len : length l.times.items ≡ l.reach-index;
  each : (v : ℕ) → v < l.reach-index → get_or l.times.items v 0 + get_or l.search.reach.items l.root 0 ≡ get_or l.search.reach.items v 0;
}
