use Rattle.std.proofs.Common.{ℕ, ◌*◌, ◌≤◌, take, get_or}
use Rattle.ix_cert.specs.Checks.{AreAmounts}
use Rattle.ix_cert.proofs.sum.amounts_at.Given as goal

abbrev pub invariant-parts : goal.invariant-parts
invariant-parts l =
    AreAmounts l.count (take l.part-index l.parts) l.sums × ((k : ℕ) → get_or l.sums k 0 ≤ l.part-index * 18446744073709551615)
