use Rattle.std.proofs.Common.{ℕ, ◌<◌}
use Rattle.ix_cert.specs.Faults.{IsOutside}
use Rattle.ix_cert.proofs.steps.first_outside.Given as goal

abbrev pub invariant-ops : goal.invariant-ops
invariant-ops l = (j : ℕ) → j < l.at → IsOutside l.b j → ⊥
