-- Statements that hold or do not.
use Rattle.std.proofs.Common.{◌≡◌, ◌≢◌, ℕ, zero, suc, ◌≤◌, ◌<◌, List, [], ◌∷◌, arith, ◌⊎◌, inl, inr}
use Rattle.std.specs.Prelude.{All}
use Rattle.std.proofs.lemmas.List.Elements.{All-cons, All-nil, All-head, All-tail}

abbrev pub Decided : Type 0 → Type 0
Decided P = P ⊎ (P → ⊥)

pub le_or : (a b : ℕ) → (a ≤ b) ⊎ (b < a)
le_or a b = grind arith

pub decide_le : (a b : ℕ) → Decided (a ≤ b)
decide_le a b =
    elim (le_or a b) [
      | inl le ↦ inl le
      | inr lt ↦ inr (λ le. omega arith)
    ]

same_or_not : (v w : ℕ) → (v ≡ w) ⊎ (v ≢ w)
same_or_not v w = grind arith

pub decide_same : (v w : ℕ) → Decided (v ≡ w)
decide_same v w =
    elim (same_or_not v w) [
      | inl e ↦ inl e
      | inr ne ↦ inr (λ e. omega arith)
    ]

pub decide_both : {P Q : Type 0} → Decided P → Decided Q → Decided (P × Q)
decide_both (inl p) (inl q) = inl (p, q)
decide_both (inr n) q = inr (λ h. n h.0)
decide_both (inl p) (inr n) = inr (λ h. n h.1)

-- where the premise does not hold nothing is claimed
pub decide_if : {P Q : Type 0} → Decided P → Decided Q → Decided (P → Q)
decide_if p (inl q) = inl (λ h. q)
decide_if (inl p) (inr n) = inr (λ f. n (f p))
decide_if (inr m) (inr n) = inl (λ h. absurd (m h))

pub decide_each : {X : Type 0} (P : X → Type 0) → ((x : X) → Decided (P x)) → (xs : List X) → Decided (All P xs)
decide_each P d [] = inl (All-nil P)
decide_each P d (x ∷ xs) =
    elim (d x) [
      | inl here ↦
          elim (decide_each P d xs) [
            | inl rest ↦ inl (All-cons P x xs here rest)
            | inr no_rest ↦ inr (λ all. no_rest (All-tail P x xs all))
          ]
      | inr no_here ↦ inr (λ all. no_here (All-head P x xs all))
    ]

below_or_last : (k n : ℕ) → k < suc n → (k < n) ⊎ (k ≡ n)
below_or_last k n h = grind arith

pub decide_below : (P : ℕ → Type 0) → ((k : ℕ) → Decided (P k)) → (n : ℕ) → Decided ((k : ℕ) → k < n → P k)
decide_below P d zero = inl (λ k b. absurd (omega arith))
decide_below P d (suc n) =
    elim (decide_below P d n) [
      | inl rest ↦
          elim (d n) [
            | inl here ↦ inl (λ k b. elim (below_or_last k n b) [
              | inl low ↦ rest k low
              | inr e ↦ rw e here
            ])
            | inr no_here ↦ inr (λ all. no_here (all n (omega arith)))
          ]
      | inr no_rest ↦ inr (λ all. no_rest (λ k b. all k (omega arith)))
    ]
