-- What is owed has units of its own, so it is no more than there are units.
use Rattle.std.proofs.Common.{◌≡◌, ◌∙◌, refl, sym, ap, subst, ℕ, ◌<◌, ◌≤◌, List, [], ◌∷◌, ◌++◌, length, map, Option, Some, None, Bool, true, false, arith}
use Rattle.std.specs.Prelude.{filter, is_some, unwrap_or, if◌then◌else◌, ◌||◌, ◌==◌}
use Rattle.std.specs.List.{list_any, AllByRecursion, IsDistinct}
use Rattle.std.proofs.Math.Dec.{eqb}
use Rattle.std.proofs.lemmas.Bool.{ne_eqb}
use Rattle.std.proofs.lemmas.Bool.Decides.{nat_tests, Decides-eqb}
use Rattle.std.proofs.lemmas.List.{append-nil, length-map}
use Rattle.std.proofs.lemmas.Map.Steps.{length-le_from_distinct_below}
use Rattle.rv_lawful.specs.Settings.{Setting}
use Rattle.rv_unit.specs.Entries.{is_number}
use Rattle.rv_harts.specs.Harts.{Fetched}
use Rattle.rv_harts.specs.Turns.{asked}
use Rattle.rv_harts.specs.HartRows.{owing}
use Rattle.rv_hart_runs.proofs.Free.{Free, free_both, free_kept}
use Rattle.rv_hart_runs.proofs.Known.{IsSound, has_unit}

-- each of these has a unit, and none behind it has the same one
abbrev pub AreApart : Setting → List Fetched → Type 0
AreApart k [] = Unit {0}
AreApart k (c ∷ owed) = ((u : ℕ) × ((asked k c).unit ≡ Some u) × Free (has_unit k u) owed) × AreApart k owed

pub kept_apart : (k : Setting) (g : Fetched → Bool) (owed : List Fetched) → AreApart k owed → AreApart k (filter g owed)
kept_apart k g [] h = tt
kept_apart k g (c ∷ owed) h = by_test (g c) (kept_apart k g owed h.1) where
  by_test : (b : Bool) → AreApart k (filter g owed) → AreApart k (if b then c ∷ filter g owed else filter g owed)
  by_test true rest = ((h.0.0, h.0.1, free_kept (has_unit k h.0.0) g owed h.0.2), rest)
  by_test false rest = rest

other_number : (v u : ℕ) → (v == u) ≡ false → (u == v) ≡ false
other_number v u e = grind (arith, nat_tests)

other_unit : (a b : Option ℕ) (u v : ℕ) → a ≡ Some u → b ≡ Some v → is_number b u ≡ false → is_number a v ≡ false
other_unit a b u v e f h = ap (λ (o : Option ℕ). is_number o v) e ∙ other_number v u (ap (λ (o : Option ℕ). is_number o u) (sym f) ∙ h)

added_apart : (k : Setting) (owed : List Fetched) (c : Fetched) (u : ℕ) → (asked k c).unit ≡ Some u → Free (has_unit k u) owed → AreApart k owed → AreApart k (owed ++ (c ∷ []))
added_apart k [] c u e free h = ((u, e, tt), tt)
added_apart k (d ∷ owed) c u e free h =
    let other : has_unit k h.0.0 c ≡ false = other_unit (asked k c).unit (asked k d).unit u h.0.0 e h.0.1 free.0 in
    ((h.0.0, h.0.1, free_both (has_unit k h.0.0) owed (c ∷ []) h.0.2 (other, tt)), added_apart k owed c u e free.1 h.1)

-- with what retires, where nothing is owed of its unit
pub owing_apart : (k : Setting) (owed : List Fetched) (o : Option Fetched) → ((c : Fetched) (u : ℕ) → o ≡ Some c → (asked k c).unit ≡ Some u → Free (has_unit k u) owed) → AreApart k owed →
    AreApart k (owed ++ owing k o)
owing_apart k owed None alone h = subst (λ (l : List Fetched). AreApart k l) (sym (append-nil owed)) h
owing_apart k owed (Some c) alone h = by_unit (asked k c).unit refl where
  by_unit : (o : Option ℕ) → (asked k c).unit ≡ o → AreApart k (owed ++ (if is_some o then c ∷ [] else []))
  by_unit None e = subst (λ (l : List Fetched). AreApart k l) (sym (append-nil owed)) h
  by_unit (Some u) e = added_apart k owed c u e (alone c u refl e) h

-- ---- how many there are

abbrev pub number_of : Setting → Fetched → ℕ
number_of k c = unwrap_or (asked k c).unit 0

number_is : (o : Option ℕ) (u : ℕ) → o ≡ Some u → unwrap_or o 0 ≡ u
number_is o u e = ap (λ (x : Option ℕ). unwrap_or x 0) e

apart_numbers : (u v : ℕ) → (v == u) ≡ false → eqb u v ≡ false
apart_numbers u v e = ne_eqb u v (λ same. absurd (differ u v e same)) where
  differ : (u v : ℕ) → (v == u) ≡ false → u ≡ v → ⊥
  differ u v e same = grind (arith, nat_tests)

none_same : (k : Setting) (u : ℕ) (owed : List Fetched) → Free (has_unit k u) owed → AreApart k owed → AllByRecursion (λ (y : ℕ). eqb u y ≡ false) (map (number_of k) owed)
none_same k u [] free h = tt
none_same k u (c ∷ owed) free h =
    let there = number_is (asked k c).unit h.0.0 h.0.1 in
    let other : (h.0.0 == u) ≡ false = ap (λ (o : Option ℕ). is_number o u) (sym h.0.1) ∙ free.0 in
    (ap (λ y. eqb u y) there ∙ apart_numbers u h.0.0 other, none_same k u owed free.1 h.1)

distinct : (k : Setting) (owed : List Fetched) → AreApart k owed → IsDistinct eqb (map (number_of k) owed)
unfolding IsDistinct
distinct k [] h = tt
distinct k (c ∷ owed) h =
    let there = number_is (asked k c).unit h.0.0 h.0.1 in
    (subst (λ u. AllByRecursion (λ (y : ℕ). eqb u y ≡ false) (map (number_of k) owed)) (sym there) (none_same k h.0.0 owed h.0.2 h.1), distinct k owed h.1)

inside : (k : Setting) (sound : IsSound k) (owed : List Fetched) → AreApart k owed → (q : ℕ) → list_any (eqb q) (map (number_of k) owed) ≡ true → q < length k.units
inside k sound [] h q e = cc
inside k sound (c ∷ owed) h q e = by_test (eqb q (number_of k c)) refl e (inside k sound owed h.1 q) where
  by_test : (b : Bool) → eqb q (number_of k c) ≡ b → (b || list_any (eqb q) (map (number_of k) owed)) ≡ true →
      (list_any (eqb q) (map (number_of k) owed) ≡ true → q < length k.units) → q < length k.units
  by_test false is e rest = rest e
  by_test true is e rest =
      let same : q ≡ number_of k c = (Decides-eqb q (number_of k c)).0 is in
      let there = number_is (asked k c).unit h.0.0 h.0.1 in
      let less = sound.below c.word h.0.0 h.0.1 in
      omega (arith, same, there, less)

pub few : (k : Setting) → IsSound k → (owed : List Fetched) → AreApart k owed → length owed ≤ length k.units
few k sound owed h =
    let most = length-le_from_distinct_below (map (number_of k) owed) (length k.units) (distinct k owed h) (inside k sound owed h) in
    omega (arith, most, length-map owed (number_of k))
