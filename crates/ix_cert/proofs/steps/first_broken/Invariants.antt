use Rattle.std.proofs.Common.{ℕ, ◌<◌}
use Rattle.ix_cert.specs.Faults.{IsBroken}
use Rattle.ix_cert.proofs.steps.first_broken.Given as goal

abbrev pub invariant-edges : goal.invariant-edges
invariant-edges l = (j : ℕ) → j < l.at → IsBroken l.b j → ⊥
