use Rattle.std.proofs.Common.{◌≡◌, ℕ, ◌<◌, pos, length, get_or}
use Rattle.ix_residual.proofs.balance.first_balances.Given as goal

abbrev pub invariant-ops : goal.invariant-ops
invariant-ops l = record {
  len : length l.left.items ≡ l.counter;
  each : (k : ℕ) → k < l.counter → get_or l.left.items k (pos 0) ≡ pos 1;
}
