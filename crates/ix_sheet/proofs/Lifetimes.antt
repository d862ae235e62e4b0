-- The cost as a sum over the operations and the ends of the edges.
use Rattle.std.proofs.Common.{◌≡◌, ℕ, ◌+◌, ◌*◌, ◌-◌, ◌≤◌, List, [], ◌∷◌, refl, arith, ap}
use Rattle.std.specs.Prelude.{All, sum_by}
use Rattle.std.proofs.lemmas.List.Sums.{sum_by-cons}
use Rattle.std.proofs.lemmas.List.Elements.{All-head, All-tail}
use Rattle.ix_sheet.specs.declared.problem.Problem.{Problem}
use Rattle.ix_sheet.specs.Schedules.{node_at, weight_of, IsAfter, kept_along}

abbrev pub weight_at : Problem → ℕ × ℕ → ℕ
weight_at p e = weight_of (node_at p e.0)

abbrev pub from_weight : Problem → (ℕ → ℕ) → ℕ × ℕ → ℕ
from_weight p t e = t e.0 * weight_at p e

abbrev pub to_weight : Problem → (ℕ → ℕ) → ℕ × ℕ → ℕ
to_weight p t e = t e.1 * weight_at p e

abbrev pub latency_weight : Problem → ℕ × ℕ → ℕ
latency_weight p e = weight_at p e * (node_at p e.0).latency

one_sum : (w a l d : ℕ) → w * d + a * w + w * l ≡ (a + l + d) * w
one_sum w a l d = omega arith

one : (w a b l : ℕ) → a + l ≤ b → w * (b - (a + l)) + a * w + w * l ≡ b * w
one w a b l h =
    let e : a + l + (b - (a + l)) ≡ b = omega arith in
    let s = one_sum w a l (b - (a + l)) in
    let m : (a + l + (b - (a + l))) * w ≡ b * w = ap (λ x. x * w) e in
    omega arith

-- the weighted time of each edge's end is that of its start, its latency and its lifetime
pub lifetimes : (p : Problem) (t : ℕ → ℕ) (edges : List (ℕ × ℕ)) → All (IsAfter p t) edges →
    sum_by (kept_along p t) edges + sum_by (from_weight p t) edges + sum_by (latency_weight p) edges ≡ sum_by (to_weight p t) edges
lifetimes p t [] h = refl
lifetimes p t (x ∷ xs) h =
    let here = one (weight_at p x) (t x.0) (t x.1) (node_at p x.0).latency (All-head (IsAfter p t) x xs h) in
    let rest = lifetimes p t xs (All-tail (IsAfter p t) x xs h) in
    rw (sum_by-cons (kept_along p t) x xs, sum_by-cons (from_weight p t) x xs, sum_by-cons (latency_weight p) x xs, sum_by-cons (to_weight p t) x xs)
    (omega arith)
