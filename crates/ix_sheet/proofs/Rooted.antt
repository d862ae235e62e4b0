-- Times with 0 for the root.
use Rattle.std.proofs.Common.{◌≡◌, ℕ, ◌+◌, ◌*◌, ◌-◌, ◌<◌, length, get_or, arith}
use Rattle.std.proofs.lemmas.Bool.{lt-ltb, le-ltb}
use Rattle.ix_sheet.specs.declared.problem.Problem.{Problem}
use Rattle.ix_sheet.specs.Schedules.{node_at, weight_of, IsValidProblem, kept_along, cost}
use Rattle.ix_sheet.specs.Bounds.{rooted}
use Rattle.ix_sheet.proofs.Sums.{below-same, sum_by-same_each}

-- an operation keeps its time
pub rooted_below : (p : Problem) (t : ℕ → ℕ) (k : ℕ) → k < length p.ops → rooted p t k ≡ t k
rooted_below p t k h = rw (lt-ltb k (length p.ops) h)

-- the root has time 0
pub rooted_root : (p : Problem) (t : ℕ → ℕ) → rooted p t (length p.ops) ≡ 0
rooted_root p t = rw (le-ltb (length p.ops) (length p.ops) (omega arith))

kept_same : (w a b x y l : ℕ) → a ≡ x → b ≡ y → w * (b - (a + l)) ≡ w * (y - (x + l))
kept_same w a b x y l e f = rw (e, f)

-- the root costs nothing
pub cost-rooted : (p : Problem) (t : ℕ → ℕ) → IsValidProblem p → cost p (rooted p t) ≡ cost p t
cost-rooted p t valid =
    let times = below-same (rooted p t) t (length p.ops) (rooted_below p t) in
    let kept = sum_by-same_each (kept_along p (rooted p t)) (kept_along p t) p.edges
    (λ k d h.
    let e = get_or p.edges k d in
    let forward = valid.forward k d h in
    kept_same (weight_of (node_at p e.0)) (rooted p t e.0) (rooted p t e.1) (t e.0) (t e.1) (node_at p e.0).latency
    (rooted_below p t e.0 (omega arith)) (rooted_below p t e.1 (omega arith)))
    in
    omega arith
