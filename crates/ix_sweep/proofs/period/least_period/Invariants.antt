use Rattle.std.proofs.Common.{ℕ, ◌-◌, ◌<◌, ◌≤◌}
use Rattle.ix_sweep.specs.Periods.{FitsAt}
use Rattle.ix_sweep.proofs.period.least_period.Given as goal

abbrev pub invariant-halves : goal.invariant-halves
invariant-halves l =
    (1 ≤ l.low) × (l.low ≤ l.high) × (l.high ≤ 1000000) × FitsAt l.graph l.sheet l.mode l.high
    × ((q : ℕ) → 1 ≤ q → q < l.low → FitsAt l.graph l.sheet l.mode q → ⊥)

abbrev pub decreases-halves : goal.decreases-halves
decreases-halves l = l.high - l.low
