use Rattle.std.proofs.Common.{ℕ, ◌-◌, ◌<◌, ◌≤◌, length, get_or}
use Rattle.ix_cert.specs.Layout.{IsBefore}
use Rattle.ix_cert.proofs.bound_test.has_edge_among.Given as goal

abbrev pub invariant-halves : goal.invariant-halves
invariant-halves l =
    (l.low ≤ l.high) × (l.high ≤ length l.edges)
    × ((k : ℕ) → k < l.low → IsBefore (get_or l.edges k (0, 0)) l.edge)
    × ((k : ℕ) → l.high ≤ k → k < length l.edges → IsBefore l.edge (get_or l.edges k (0, 0)))

abbrev pub decreases-halves : goal.decreases-halves
decreases-halves l = l.high - l.low
