-- Pointwise minima and maxima of schedules.
use Rattle.std.proofs.Common.{◌≡◌, ℕ, zero, suc, ◌+◌, ◌*◌, ◌≤◌, ◌<◌, List, [], ◌∷◌, length, min, max, refl, arith, ◌⊎◌, inl, inr}
use Rattle.std.specs.Prelude.{sum_by}
use Rattle.std.proofs.lemmas.List.Sums.{sum_by-cons}
use Rattle.ix_sheet.specs.declared.problem.Problem.{Problem}
use Rattle.ix_sheet.specs.Schedules.{IsValidProblem, IsLegal, IsCheapest, sum_below, cost}
use Rattle.ix_sheet.specs.Bounds.{arc_of, rooted, MeetsAll}
use Rattle.ix_sheet.proofs.Rooted.{rooted_below, rooted_root}
use Rattle.ix_sheet.proofs.BoundLemmas.{ends_inside, met_from_legal, legal_from_met}
use Rattle.ix_sheet.proofs.Lifetimes.{weight_at, lifetimes}

below_or_not : (a b : ℕ) → (a < b) ⊎ (b ≤ a)
below_or_not a b = grind arith

-- the least and the greatest of two times; the root keeps its 0
abbrev pub least_of : (ℕ → ℕ) → (ℕ → ℕ) → ℕ → ℕ
least_of t u k = min (t k) (u k)

abbrev pub greatest_of : (ℕ → ℕ) → (ℕ → ℕ) → ℕ → ℕ
greatest_of t u k = max (t k) (u k)

rooted-least : (p : Problem) (t u : ℕ → ℕ) (k : ℕ) → k ≤ length p.ops → rooted p (least_of t u) k ≡ min (rooted p t k) (rooted p u k)
rooted-least p t u k h =
    elim (below_or_not k (length p.ops)) [
      | inl low ↦ rw (rooted_below p (least_of t u) k low, rooted_below p t k low, rooted_below p u k low)
      | inr end ↦
          (let root : k ≡ length p.ops = omega arith in
          rw (root, rooted_root p (least_of t u), rooted_root p t, rooted_root p u))
    ]

rooted-greatest : (p : Problem) (t u : ℕ → ℕ) (k : ℕ) → k ≤ length p.ops → rooted p (greatest_of t u) k ≡ max (rooted p t k) (rooted p u k)
rooted-greatest p t u k h =
    elim (below_or_not k (length p.ops)) [
      | inl low ↦ rw (rooted_below p (greatest_of t u) k low, rooted_below p t k low, rooted_below p u k low)
      | inr end ↦
          (let root : k ≡ length p.ops = omega arith in
          rw (root, rooted_root p (greatest_of t u), rooted_root p t, rooted_root p u))
    ]

least_met : (a b c d x y : ℕ) → a + x ≤ b + y → c + x ≤ d + y → min a c + x ≤ min b d + y
least_met a b c d x y g h = omega arith

greatest_met : (a b c d x y : ℕ) → a + x ≤ b + y → c + x ≤ d + y → max a c + x ≤ max b d + y
greatest_met a b c d x y g h = omega arith

least_meets_all : (p : Problem) (t u : ℕ → ℕ) → IsValidProblem p → MeetsAll p t → MeetsAll p u → MeetsAll p (least_of t u)
least_meets_all p t u valid met too bound h =
    let ends = ends_inside p valid bound h in
    let a = arc_of p bound in
    rw (rooted-least p t u a.from ends.0, rooted-least p t u a.to ends.1)
    (least_met (rooted p t a.from) (rooted p t a.to) (rooted p u a.from) (rooted p u a.to) a.up a.down (met bound h) (too bound h))

greatest_meets_all : (p : Problem) (t u : ℕ → ℕ) → IsValidProblem p → MeetsAll p t → MeetsAll p u → MeetsAll p (greatest_of t u)
greatest_meets_all p t u valid met too bound h =
    let ends = ends_inside p valid bound h in
    let a = arc_of p bound in
    rw (rooted-greatest p t u a.from ends.0, rooted-greatest p t u a.to ends.1)
    (greatest_met (rooted p t a.from) (rooted p t a.to) (rooted p u a.from) (rooted p u a.to) a.up a.down (met bound h) (too bound h))

pub least_legal : (p : Problem) (t u : ℕ → ℕ) → IsValidProblem p → IsLegal p t → IsLegal p u → IsLegal p (least_of t u)
least_legal p t u valid a b =
    legal_from_met p (least_of t u) valid (least_meets_all p t u valid (met_from_legal p t valid a) (met_from_legal p u valid b))

pub greatest_legal : (p : Problem) (t u : ℕ → ℕ) → IsValidProblem p → IsLegal p t → IsLegal p u → IsLegal p (greatest_of t u)
greatest_legal p t u valid a b =
    legal_from_met p (greatest_of t u) valid (greatest_meets_all p t u valid (met_from_legal p t valid a) (met_from_legal p u valid b))

-- a sum over the operations is the same over the least and the greatest of two
below-both : (t u : ℕ → ℕ) (n : ℕ) → sum_below (least_of t u) n + sum_below (greatest_of t u) n ≡ sum_below t n + sum_below u n
below-both t u zero = refl
below-both t u (suc n) = omega (arith, below-both t u n)

parts : (x y w : ℕ) → min x y * w + max x y * w ≡ x * w + y * w
parts x y w =
    elim (below_or_not x y) [
      | inl less ↦ (let a : min x y ≡ x = omega arith in let b : max x y ≡ y = omega arith in rw (a, b))
      | inr more ↦ (let a : min x y ≡ y = omega arith in let b : max x y ≡ x = omega arith in rw (a, b) (omega arith))
    ]

-- .. and so is a weighted sum over a list
weighed-both : {X : Type 0} (place weight : X → ℕ) (t u : ℕ → ℕ) (xs : List X) →
    sum_by (λ x. least_of t u (place x) * weight x) xs + sum_by (λ x. greatest_of t u (place x) * weight x) xs
    ≡ sum_by (λ x. t (place x) * weight x) xs + sum_by (λ x. u (place x) * weight x) xs
weighed-both place weight t u [] = refl
weighed-both place weight t u (x ∷ xs) =
    let here = parts (t (place x)) (u (place x)) (weight x) in
    let rest = weighed-both place weight t u xs in
    rw (
      sum_by-cons (λ y. least_of t u (place y) * weight y) x xs,
      sum_by-cons (λ y. greatest_of t u (place y) * weight y) x xs,
      sum_by-cons (λ y. t (place y) * weight y) x xs,
      sum_by-cons (λ y. u (place y) * weight y) x xs,
    )
    (omega arith)

-- the least and the greatest of two legal schedules cost together what the two cost
cost-both : (p : Problem) (t u : ℕ → ℕ) → IsValidProblem p → IsLegal p t → IsLegal p u →
    cost p (least_of t u) + cost p (greatest_of t u) ≡ cost p t + cost p u
cost-both p t u valid a b =
    let least = least_legal p t u valid a b in
    let greatest = greatest_legal p t u valid a b in
    let times = below-both t u (length p.ops) in
    let from = weighed-both (λ e. e.0) (weight_at p) t u p.edges in
    let to = weighed-both (λ e. e.1) (weight_at p) t u p.edges in
    let l1 = lifetimes p t p.edges a.edges in
    let l2 = lifetimes p u p.edges b.edges in
    let l3 = lifetimes p (least_of t u) p.edges least.edges in
    let l4 = lifetimes p (greatest_of t u) p.edges greatest.edges in
    omega arith

pub least_minimum : (p : Problem) → IsValidProblem p → (t u : ℕ → ℕ) → IsCheapest p t → IsCheapest p u → IsCheapest p (λ k. min (t k) (u k))
least_minimum p valid t u a b =
    let both = cost-both p t u valid a.legal b.legal in
    let above = a.cheapest (greatest_of t u) (greatest_legal p t u valid a.legal b.legal) in
    record {
      legal = least_legal p t u valid a.legal b.legal;
      cheapest = λ v l. omega (arith, b.cheapest v l);
    }
