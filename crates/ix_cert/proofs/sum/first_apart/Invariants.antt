use Rattle.std.proofs.Common.{◌≢◌, ℕ, ◌+◌, ◌<◌, get_or}
use Rattle.ix_cert.proofs.sum.first_apart.Given as goal

abbrev pub invariant-ops : goal.invariant-ops
invariant-ops l = (j : ℕ) → j < l.at → get_or l.more j 0 ≢ get_or l.less j 0 + 1 → ⊥
