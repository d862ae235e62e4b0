-- The starts of free edges, and the best of them.
use Rattle.std.proofs.Common.{◌≡◌, ℕ, ◌≤◌, ◌==◌, ◌&&◌, Bool, true, leb, List, [], ◌∷◌, Option, Some, None, refl, sym, ◌∙◌, ap, subst, arith, ◌⊎◌, inl, inr}
use Rattle.std.specs.Prelude.{Contains}
use Rattle.std.proofs.lemmas.Bool.{cases_Bool, eqb-true, and_parts}
use Rattle.std.proofs.lemmas.Bool.Decides.{nat_tests}
use Rattle.ix_sheet.specs.declared.problem.Problem.{Problem}
use Rattle.ix_sheet.specs.Schedules.{node_at}
use Rattle.ix_problem.specs.declared.reach.Reach.{Reach}
use Rattle.ix_problem.specs.Reaches.{free_into, AreStartsOf, reach_at, better_of, best_of}
use Rattle.ix_problem.proofs.Lists.{contains_head, contains_tail, contains_cases, contains_nothing}

-- ---- the starts of the free edges to an operation

abbrev ends_free : Problem → ℕ → ℕ × ℕ → Bool
ends_free p j e = (e.1 == j) && ((node_at p e.0).latency == 0)

free_from_test : (p : Problem) (j : ℕ) (e : ℕ × ℕ) → ends_free p j e ≡ true → (e.1 ≡ j) × ((node_at p e.0).latency ≡ 0)
free_from_test p j e h = let parts = and_parts (e.1 == j) ((node_at p e.0).latency == 0) h in (eqb-true e.1 j parts.0, eqb-true (node_at p e.0).latency 0 parts.1)

test_from_free : (p : Problem) (j : ℕ) (e : ℕ × ℕ) → e.1 ≡ j → (node_at p e.0).latency ≡ 0 → ends_free p j e ≡ true
test_from_free p j e h g = grind (arith, nat_tests)

sound : (p : Problem) (j k : ℕ) (edges : List (ℕ × ℕ)) → Contains (free_into p j edges) k → Contains edges (k, j) × ((node_at p k).latency ≡ 0)
sound p j k [] c = absurd (contains_nothing k c)
sound p j k (e ∷ edges) c = elim (cases_Bool (ends_free p j e)) [
  | inl passes ↦
      (let here : Contains (e.0 ∷ free_into p j edges) k = rw passes at c in
      let facts = free_from_test p j e passes in
      elim (contains_cases e.0 k (free_into p j edges) here) [
        | inl same ↦ (contains_head e (k, j) edges (ap (λ a. (a, e.1)) same ∙ ap (λ b. (k, b)) facts.0), ap (λ a. (node_at p a).latency) (sym same) ∙ facts.1)
        | inr later ↦ (let rest = sound p j k edges later in (contains_tail e (k, j) edges rest.0, rest.1))
      ])
  | inr other ↦
      (let here : Contains (free_into p j edges) k = rw other at c in
      let rest = sound p j k edges here in
      (contains_tail e (k, j) edges rest.0, rest.1))
]

complete : (p : Problem) (j k : ℕ) (edges : List (ℕ × ℕ)) → Contains edges (k, j) → (node_at p k).latency ≡ 0 → Contains (free_into p j edges) k
complete p j k [] c f = absurd (contains_nothing (k, j) c)
complete p j k (e ∷ edges) c f = elim (contains_cases e (k, j) edges c) [
  | inl same ↦
      (let first : e.0 ≡ k = ap (λ x. x.0) same in
      let pass : ends_free p j e ≡ true = test_from_free p j e (ap (λ x. x.1) same) (ap (λ a. (node_at p a).latency) first ∙ f) in
      rw pass (contains_head e.0 k (free_into p j edges) first))
  | inr later ↦
      (let rest = complete p j k edges later f in
      elim (cases_Bool (ends_free p j e)) [
        | inl passes ↦ rw passes (contains_tail e.0 k (free_into p j edges) rest)
        | inr other ↦ rw other rest
      ])
]

pub free_starts_are : (p : Problem) (j : ℕ) → AreStartsOf p j (free_into p j p.edges)
free_starts_are p j = (λ k c. sound p j k p.edges c, λ k e. complete p j k p.edges e.0 e.1)

-- ---- the best of the starts
better_keeps : (best : Reach) (new : Option Reach) (k : ℕ) → (r : Reach) × (better_of (Some best) new k ≡ Some r) × (best.delay ≤ r.delay)
better_keeps best None k = (best, refl, omega arith)
better_keeps best (Some new) k = elim (cases_Bool (leb new.delay best.delay)) [
  | inl low ↦ rw low (best, refl, omega arith)
  | inr high ↦ rw high (record { delay = new.delay; parent = k }, refl, grind (arith, nat_tests))
]

best_keeps : (reaches : List (Option Reach)) (best : Reach) (ks : List ℕ) → (r : Reach) × (best_of reaches (Some best) ks ≡ Some r) × (best.delay ≤ r.delay)
best_keeps reaches best [] = (best, refl, omega arith)
best_keeps reaches best (k ∷ rest) =
    let more = better_keeps best (reach_at reaches k) k in
    let last = best_keeps reaches more.0 rest in
    (last.0, ap (λ b. best_of reaches b rest) more.1 ∙ last.1, omega (arith, more.2, last.2))

better_takes : (best : Option Reach) (new : Reach) (k : ℕ) → (r : Reach) × (better_of best (Some new) k ≡ Some r) × (new.delay ≤ r.delay)
better_takes None new k = (record { delay = new.delay; parent = k }, refl, omega arith)
better_takes (Some best) new k = elim (cases_Bool (leb new.delay best.delay)) [
  | inl low ↦ rw low (best, refl, grind (arith, nat_tests))
  | inr high ↦ rw high (record { delay = new.delay; parent = k }, refl, omega arith)
]

-- the best has at least the delay of each start
pub best_most : (reaches : List (Option Reach)) (best : Option Reach) (ks : List ℕ) (k : ℕ) (q : Reach) → Contains ks k → reach_at reaches k ≡ Some q
    → (r : Reach) × (best_of reaches best ks ≡ Some r) × (q.delay ≤ r.delay)
best_most reaches best [] k q c e = absurd (contains_nothing k c)
best_most reaches best (x ∷ rest) k q c e = elim (contains_cases x k rest c) [
  | inl same ↦
      (let found : reach_at reaches x ≡ Some q = ap (reach_at reaches) same ∙ e in
      let more = better_takes best q x in
      let last = best_keeps reaches more.0 rest in
      (last.0, ap (λ o. best_of reaches (better_of best o x) rest) found ∙ ap (λ b. best_of reaches b rest) more.1 ∙ last.1, omega (arith, more.2, last.2)))
  | inr later ↦ best_most reaches (better_of best (reach_at reaches x) x) rest k q later e
]

-- and is that of one of them
pub record IsFrom (reaches : List (Option Reach)) (ks : List ℕ) (r : Reach) : Type 0 where
  pub among : Contains ks r.parent
  pub start : Reach
  pub found : reach_at reaches r.parent ≡ Some start
  pub delay : start.delay ≡ r.delay

from_tail : (reaches : List (Option Reach)) (x : ℕ) (ks : List ℕ) (r : Reach) → IsFrom reaches ks r → IsFrom reaches (x ∷ ks) r
from_tail reaches x ks r h = record { among = contains_tail x r.parent ks h.among; start = h.start; found = h.found; delay = h.delay }

abbrev IsOldOr : List (Option Reach) → Option Reach → List ℕ → Reach → Type 0
IsOldOr reaches best ks r = (best ≡ Some r) ⊎ IsFrom reaches ks r

some_is : (a b : Reach) → Some a ≡ Some b → a ≡ b
some_is a b e = cc

better_from : (reaches : List (Option Reach)) (best new : Option Reach) (k : ℕ) (rest : List ℕ) (r : Reach) → reach_at reaches k ≡ new
    → better_of best new k ≡ Some r → IsOldOr reaches best (k ∷ rest) r
better_from reaches best None k rest r f e = inl e
better_from reaches None (Some new) k rest r f e =
    let same : record { delay = new.delay; parent = k } ≡ r = some_is _ r e in
    inr (subst (IsFrom reaches (k ∷ rest)) same (record { among = contains_head k k rest refl; start = new; found = f; delay = refl }))
better_from reaches (Some best) (Some new) k rest r f e = elim (cases_Bool (leb new.delay best.delay)) [
  | inl low ↦ inl (rw low at e)
  | inr high ↦
      (let now : Some (record { delay = new.delay; parent = k }) ≡ Some r = rw high at e in
      let same : record { delay = new.delay; parent = k } ≡ r = some_is _ r now in
      inr (subst (IsFrom reaches (k ∷ rest)) same (record { among = contains_head k k rest refl; start = new; found = f; delay = refl })))
]

pub best_from : (reaches : List (Option Reach)) (best : Option Reach) (ks : List ℕ) (r : Reach) → best_of reaches best ks ≡ Some r → IsOldOr reaches best ks r
best_from reaches best [] r e = inl e
best_from reaches best (k ∷ rest) r e = elim (best_from reaches (better_of best (reach_at reaches k) k) rest r e) [
  | inl old ↦ better_from reaches best (reach_at reaches k) k rest r refl old
  | inr later ↦ inr (from_tail reaches k rest r later)
]
