-- Edges in order, and whether a list has one.
use Rattle.std.proofs.Common.{◌≡◌, ◌≢◌, ℕ, zero, suc, ◌+◌, ◌≤◌, ◌<◌, ◌==◌, ◌&&◌, nat_lt, true, false, List, [], ◌∷◌, length, get_or, sym, ◌∙◌, ap, subst, arith, ◌⊎◌, inl, inr}
use Rattle.std.specs.Prelude.{Contains, AllPairs}
use Rattle.std.proofs.lemmas.Bool.{cases_Bool, eqb-true, and_parts, or_left, or_right}
use Rattle.std.proofs.lemmas.Bool.Decides.{nat_tests}
use Rattle.std.proofs.lemmas.List.{get_or_default}
use Rattle.std.proofs.lemmas.List.Elements.{Contains-get_or}
use Rattle.ix_cert.specs.Layout.{IsBefore}
use Rattle.ix_cert.specs.Checks.{is_before, is_edge, has_edge}

-- ---- tests
le_cases : (a b : ℕ) → a ≤ b → (a ≡ b) ⊎ (a < b)
le_cases a b h = grind arith

edge_same : (e f : ℕ × ℕ) → is_edge e f ≡ true → e ≡ f
edge_same e f h =
    let parts = and_parts (e.0 == f.0) (e.1 == f.1) h in
    ap (λ a. (a, e.1)) (eqb-true e.0 f.0 parts.0) ∙ ap (λ b. (f.0, b)) (eqb-true e.1 f.1 parts.1)

edge_is : (e f : ℕ × ℕ) → e ≡ f → is_edge e f ≡ true
edge_is e f h =
    let first : e.0 ≡ f.0 = ap (λ (x : ℕ × ℕ). x.0) h in
    let last : e.1 ≡ f.1 = ap (λ (x : ℕ × ℕ). x.1) h in
    grind (arith, nat_tests)

pub before_from : (e f : ℕ × ℕ) → is_before e f ≡ true → IsBefore e f
before_from e f h = elim (cases_Bool (nat_lt e.1 f.1)) [
  | inl less ↦ inl (grind (arith, nat_tests))
  | inr other ↦
      (let rest : ((e.1 == f.1) && nat_lt e.0 f.0) ≡ true = rw other at h in
      let parts = and_parts (e.1 == f.1) (nat_lt e.0 f.0) rest in
      inr (eqb-true e.1 f.1 parts.0, (let less = parts.1 in grind (arith, nat_tests))))
]

not_before : (e f : ℕ × ℕ) → is_before e f ≡ false → e ≢ f → IsBefore f e
not_before e f h differ = order e f (test_false e f h) differ
  where
    test_false : (e f : ℕ × ℕ) → is_before e f ≡ false → (f.1 ≤ e.1) × (e.1 ≡ f.1 → f.0 ≤ e.0)
    test_false e f h = (grind (arith, nat_tests), λ same. grind (arith, nat_tests))

    order : (e f : ℕ × ℕ) → (f.1 ≤ e.1) × (e.1 ≡ f.1 → f.0 ≤ e.0) → e ≢ f → IsBefore f e
    order e f h differ = elim (le_cases f.1 e.1 h.0) [
      | inr less ↦ inl less
      | inl same ↦ elim (le_cases f.0 e.0 (h.1 (sym same))) [
        | inr less ↦ inr (same, less)
        | inl equal ↦ absurd (differ (ap (λ a. (a, e.1)) (sym equal) ∙ ap (λ b. (f.0, b)) (sym same)))
      ]
    ]

-- ---- membership
pub has_from : (edges : List (ℕ × ℕ)) (e : ℕ × ℕ) → Contains edges e → has_edge edges e.0 e.1 ≡ true
has_from [] e (k, h, g) = absurd (omega arith)
has_from (x ∷ edges) e (zero, h, g) = or_left (is_edge (e.0, e.1) x) (has_edge edges e.0 e.1) (edge_is (e.0, e.1) x (sym g))
has_from (x ∷ edges) e (suc k, h, g) = or_right (is_edge (e.0, e.1) x) (has_edge edges e.0 e.1) (has_from edges e (k, omega arith, g))

pub has_to : (edges : List (ℕ × ℕ)) (i j : ℕ) → has_edge edges i j ≡ true → Contains edges (i, j)
has_to [] i j h = cc
has_to (x ∷ edges) i j h = elim (cases_Bool (is_edge (i, j) x)) [
  | inl here ↦ (0, omega arith, sym (edge_same (i, j) x here))
  | inr other ↦
      (let later : has_edge edges i j ≡ true = rw other at h in
      let c = has_to edges i j later in
      (suc c.0, omega (arith, c.1), c.2))
]

pub has_not : (edges : List (ℕ × ℕ)) (e : ℕ × ℕ) → (Contains edges e → ⊥) → has_edge edges e.0 e.1 ≡ false
has_not edges e h = elim (cases_Bool (has_edge edges e.0 e.1)) [
  | inl here ↦ absurd (h (has_to edges e.0 e.1 here))
  | inr other ↦ other
]

-- ---- searching by halves
before_trans : (e f g : ℕ × ℕ) → IsBefore e f → IsBefore f g → IsBefore e g
before_trans e f g (inl a) (inl b) = inl (omega arith)
before_trans e f g (inl a) (inr b) = inl (omega (arith, b.0))
before_trans e f g (inr a) (inl b) = inl (omega (arith, a.0))
before_trans e f g (inr a) (inr b) = inr (a.0 ∙ b.0, omega (arith, a.1, b.1))

before_differ : (e f : ℕ × ℕ) → IsBefore e f → e ≡ f → ⊥
before_differ e f (inl a) h = omega (arith, a, ap (λ (x : ℕ × ℕ). x.1) h)
before_differ e f (inr a) h = omega (arith, a.1, ap (λ (x : ℕ × ℕ). x.0) h)

abbrev at : List (ℕ × ℕ) → ℕ → ℕ × ℕ
at edges k = get_or edges k (0, 0)

eq_or_lt : (a b : ℕ) → a < b + 1 → (a ≡ b) ⊎ (a < b)
eq_or_lt a b h = grind arith

pub up_to : (edges : List (ℕ × ℕ)) (e : ℕ × ℕ) (middle : ℕ) → AllPairs IsBefore edges → middle < length edges → IsBefore (at edges middle) e
    → (k : ℕ) → k < middle + 1 → IsBefore (at edges k) e
up_to edges e middle ordered inside before k h = elim (eq_or_lt k middle h) [
  | inl same ↦ subst (λ n. IsBefore (at edges n) e) (sym same) before
  | inr less ↦ before_trans (at edges k) (at edges middle) e (ordered k middle (0, 0) less inside) before
]

pub from_on : (edges : List (ℕ × ℕ)) (e : ℕ × ℕ) (middle : ℕ) → AllPairs IsBefore edges → middle < length edges → is_before (at edges middle) e ≡ false
    → at edges middle ≢ e → (k : ℕ) → middle ≤ k → k < length edges → IsBefore e (at edges k)
from_on edges e middle ordered inside test differ k low high =
    let first : IsBefore e (at edges middle) = not_before (at edges middle) e test differ in
    elim (le_cases middle k low) [
      | inl same ↦ subst (λ n. IsBefore e (at edges n)) same first
      | inr more ↦ before_trans e (at edges middle) (at edges k) first (ordered middle k (0, 0) more high)
    ]

split : (low high k : ℕ) → high ≤ low → (k < low) ⊎ (high ≤ k)
split low high k h = grind arith

pub nowhere : (edges : List (ℕ × ℕ)) (e : ℕ × ℕ) (low high : ℕ) → high ≤ low → ((k : ℕ) → k < low → IsBefore (at edges k) e)
    → ((k : ℕ) → high ≤ k → k < length edges → IsBefore e (at edges k)) → has_edge edges e.0 e.1 ≡ false
nowhere edges e low high met before after = has_not edges e (λ c. clash c)
  where
    here : (c : Contains edges e) → at edges c.0 ≡ e
    here c = get_or_default edges c.0 (0, 0) e c.1 ∙ c.2

    clash : Contains edges e → ⊥
    clash c = elim (split low high c.0 met) [
      | inl less ↦ before_differ (at edges c.0) e (before c.0 less) (here c)
      | inr more ↦ before_differ e (at edges c.0) (after c.0 more c.1) (sym (here c))
    ]

pub has_found : (edges : List (ℕ × ℕ)) (e : ℕ × ℕ) (middle : ℕ) → middle < length edges → true ≡ is_edge (at edges middle) e → true ≡ has_edge edges e.0 e.1
has_found edges e middle inside test =
    let same : at edges middle ≡ e = edge_same (at edges middle) e (sym test) in
    sym (has_from edges e (subst (Contains edges) same (Contains-get_or edges middle (0, 0) inside)))

pub not_found : (e f : ℕ × ℕ) → false ≡ is_edge e f → e ≢ f
not_found e f test same = let clash : false ≡ true = test ∙ edge_is e f same in cc
