use Rattle.std.proofs.Common.{◌≡◌, ℕ, ◌<◌, [], length, get_or}
use Rattle.ix_problem.specs.Reaches.{AreStartsOf}
use Rattle.ix_problem.proofs.reach.free_starts.Given as goal

abbrev pub invariant-ops : goal.invariant-ops
invariant-ops l = (length l.starts.items ≡ l.to) × ((j : ℕ) → j < l.to → AreStartsOf l.p j (get_or l.starts.items j []))
