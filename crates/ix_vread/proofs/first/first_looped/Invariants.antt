use Rattle.std.proofs.Common.{ℕ, ◌<◌}
use Rattle.ix_vread.specs.Searches.{IsLooped}
use Rattle.ix_vread.proofs.first.first_looped.Given as goal

abbrev pub invariant-loop-cell : goal.invariant-loop-cell
invariant-loop-cell l = (j : ℕ) → j < l.cell → IsLooped l.marks j → ⊥
