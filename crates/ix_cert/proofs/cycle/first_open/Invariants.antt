use Rattle.std.proofs.Common.{◌≡◌, ℕ, ◌<◌}
use Rattle.ix_cert.specs.Faults.{IsOpen, end_before}
use Rattle.ix_cert.proofs.cycle.first_open.Given as goal

abbrev pub invariant-bounds : goal.invariant-bounds
invariant-bounds l = (l.end ≡ end_before l.b.problem l.b.cycle l.at) × ((j : ℕ) → j < l.at → IsOpen l.b j → ⊥)
