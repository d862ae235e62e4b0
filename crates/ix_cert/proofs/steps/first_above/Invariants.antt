use Rattle.std.proofs.Common.{ℕ, ◌<◌, get_or}
use Rattle.ix_cert.proofs.steps.first_above.Given as goal

abbrev pub invariant-ops : goal.invariant-ops
invariant-ops l = (j : ℕ) → j < l.at → l.period < get_or l.reach j 0 → ⊥
