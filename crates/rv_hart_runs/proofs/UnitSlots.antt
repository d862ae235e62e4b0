-- What stands in the slots of units, and what stands there a row later.
use Rattle.std.proofs.Common.{◌≡◌, ◌∙◌, refl, sym, ap, subst, ℕ, zero, suc, ◌+◌, List, [], ◌∷◌, length, Option, Some, None, ◌⊎◌, inl, inr, arith}
use Rattle.std.specs.Prelude.{take, slice_get, if◌then◌else◌}
use Rattle.ix_plan.specs.Units.{Slots, finished, with_unit, written_from, unit_written, frozen_with, serial_for, moved_on, next_from, next_units}
use Rattle.rv_hart_runs.proofs.Free.{same_some}
use Rattle.rv_hart_runs.proofs.StatesLists.{In}

pub none_some : {A : Type 0} (x : A) → ◌≡◌ {A = Option A} None (Some x) → ⊥
none_some x e = cc

-- ---- the slots of one unit

-- this serial stands there
abbrev pub Holds : Slots → ℕ → Type 0
Holds slots s = In (Some s) slots

-- none does
abbrev pub IsEmpty : Slots → Type 0
IsEmpty slots = (s : ℕ) → Holds slots s → ⊥

-- at most one does
abbrev pub IsSole : Slots → Type 0
IsSole [] = Unit {0}
IsSole (None ∷ slots) = IsSole slots
IsSole (Some s ∷ slots) = IsEmpty slots

pub empty_sole : (slots : Slots) → IsEmpty slots → IsSole slots
empty_sole [] h = tt
empty_sole (None ∷ slots) h = empty_sole slots (λ s is. h s (inr is))
empty_sole (Some s ∷ slots) h = absurd (h s (inl refl))

holds_taken : (n : ℕ) (slots : Slots) (s : ℕ) → Holds (take n slots) s → Holds slots s
holds_taken zero slots s is = absurd is
holds_taken (suc n) [] s is = absurd is
holds_taken (suc n) (x ∷ slots) s (inl e) = inl e
holds_taken (suc n) (x ∷ slots) s (inr is) = inr (holds_taken n slots s is)

sole_taken : (n : ℕ) (slots : Slots) → IsSole slots → IsSole (take n slots)
sole_taken zero slots h = tt
sole_taken (suc n) [] h = tt
sole_taken (suc n) (None ∷ slots) h = sole_taken n slots h
sole_taken (suc n) (Some s ∷ slots) h = λ t is. h t (holds_taken n slots t is)

pub finished_holds : (slots : Slots) (s : ℕ) → finished slots ≡ Some s → Holds slots s
finished_holds [] s e = absurd (none_some s e)
finished_holds (x ∷ []) s e = inl (sym e)
finished_holds (x ∷ y ∷ slots) s e = inr (finished_holds (y ∷ slots) s e)

-- what moves on stood there before, or enters
pub moved_from : (entered : Option ℕ) (slots : Slots) (s : ℕ) → Holds (moved_on entered slots) s → (entered ≡ Some s) ⊎ Holds (moved_on None slots) s
moved_from entered [] s is = absurd is
moved_from entered (x ∷ slots) s (inl e) = inl (sym e)
moved_from entered (x ∷ slots) s (inr is) = inr (inr is)

pub moved_was : (slots : Slots) (s : ℕ) → Holds (moved_on None slots) s → Holds slots s
moved_was [] s is = absurd is
moved_was (x ∷ slots) s (inl e) = absurd (none_some s (sym e))
moved_was (x ∷ slots) s (inr is) = holds_taken (length slots) (x ∷ slots) s is

-- where one stands at the last time, none moves on
pub last_moves : (slots : Slots) (t : ℕ) → IsSole slots → finished slots ≡ Some t → IsEmpty (moved_on None slots)
last_moves [] t sole e s is = absurd is
last_moves (x ∷ []) t sole e s (inl a) = absurd (none_some s (sym a))
last_moves (x ∷ []) t sole e s (inr is) = absurd is
last_moves (x ∷ y ∷ slots) t sole e s (inl a) = absurd (none_some s (sym a))
last_moves (Some r ∷ y ∷ slots) t sole e s (inr is) = absurd (sole t (finished_holds (y ∷ slots) t e))
last_moves (None ∷ y ∷ slots) t sole e s (inr (inl a)) = absurd (none_some s (sym a))
last_moves (None ∷ y ∷ slots) t sole e s (inr (inr is)) = last_moves (y ∷ slots) t sole e s (inr is)

-- at most one moves on, if what enters comes to no other
pub moved_sole : (entered : Option ℕ) (slots : Slots) → IsSole slots → ((s : ℕ) → entered ≡ Some s → IsEmpty (moved_on None slots)) → IsSole (moved_on entered slots)
moved_sole entered [] sole alone = tt
moved_sole None (x ∷ slots) sole alone = sole_taken (length slots) (x ∷ slots) sole
moved_sole (Some s) (x ∷ slots) sole alone = λ t is. alone s refl t (inr is)

-- ---- units

-- what is in a unit a row later
abbrev pub unit_after : ℕ → Option (ℕ × ℕ) → Option (ℕ × ℕ) → Slots → Slots
unit_after u written retired unit = if frozen_with u unit written then unit else moved_on (serial_for u retired) unit

-- this unit has these slots
abbrev pub IsUnit : List Slots → ℕ → Slots → Type 0
IsUnit units u slots = slice_get units u ≡ Some slots

get_from : (first u v : ℕ) (written retired : Option (ℕ × ℕ)) (units : List Slots) (slots : Slots) → v ≡ first + u → IsUnit (next_from first written retired units) u slots →
    (unit : Slots) × IsUnit units u unit × (slots ≡ unit_after v written retired unit)
get_from first u v written retired [] slots at e = absurd (none_some slots e)
get_from first zero v written retired (unit ∷ units) slots at e =
    let same : v ≡ first = omega (arith, at) in
    (unit, refl, sym (same_some (unit_after first written retired unit) slots e) ∙ ap (λ w. unit_after w written retired unit) (sym same))
get_from first (suc u) v written retired (unit ∷ units) slots at e = get_from (first + 1) u v written retired units slots (omega (arith, at)) e

put_from : (first u v : ℕ) (written retired : Option (ℕ × ℕ)) (units : List Slots) (unit : Slots) → v ≡ first + u → IsUnit units u unit →
    IsUnit (next_from first written retired units) u (unit_after v written retired unit)
put_from first u v written retired [] unit at e = absurd (none_some unit e)
put_from first zero v written retired (x ∷ units) unit at e =
    let same : first ≡ v = omega (arith, at) in
    ap (λ w. Some (unit_after w written retired x)) same ∙ ap (λ (y : Slots). Some (unit_after v written retired y)) (same_some x unit e)
put_from first (suc u) v written retired (x ∷ units) unit at e = put_from (first + 1) u v written retired units unit (omega (arith, at)) e

-- what stands there was in the unit, or enters it
pub unit_was : (retired : Option (ℕ × ℕ)) (units : List Slots) (u : ℕ) (slots : Slots) → IsUnit (next_units retired units) u slots →
    (unit : Slots) × IsUnit units u unit × (slots ≡ unit_after u (unit_written units) retired unit)
unit_was retired units u slots e = get_from 0 u u (unit_written units) retired units slots (omega arith) e

pub unit_is : (retired : Option (ℕ × ℕ)) (units : List Slots) (u : ℕ) (unit : Slots) → IsUnit units u unit → IsUnit (next_units retired units) u (unit_after u (unit_written units) retired unit)
unit_is retired units u unit e = put_from 0 u u (unit_written units) retired units unit (omega arith) e

-- the unit that is written has its serial at its last time
written_there : (first v t : ℕ) (units : List Slots) → written_from first units ≡ Some (v, t) → (u : ℕ) × (v ≡ first + u) × ((unit : Slots) × IsUnit units u unit × (finished unit ≡ Some t))
written_there first v t [] e = cc
written_there first v t (unit ∷ units) e = by_last (finished unit) refl e (written_there (first + 1) v t units) where
  by_last : (o : Option ℕ) → finished unit ≡ o → with_unit first o (written_from (first + 1) units) ≡ Some (v, t) →
      (written_from (first + 1) units ≡ Some (v, t) → (u : ℕ) × (v ≡ first + 1 + u) × ((x : Slots) × IsUnit units u x × (finished x ≡ Some t))) →
      (u : ℕ) × (v ≡ first + u) × ((x : Slots) × IsUnit (unit ∷ units) u x × (finished x ≡ Some t))
  by_last None last e rest =
      let there = rest e in
      let number = there.1 in
      (suc there.0, omega (arith, number), there.2)
  by_last (Some s) last e rest =
      let same : ◌≡◌ {A = ℕ × ℕ} (first, s) (v, t) = same_some (first, s) (v, t) e in
      let number : first ≡ v = ap (λ (p : ℕ × ℕ). p.0) same in
      (zero, omega (arith, number), (unit, refl, last ∙ ap (λ (p : ℕ × ℕ). Some p.1) same))

pub written_at : (units : List Slots) (v t : ℕ) → unit_written units ≡ Some (v, t) → (unit : Slots) × IsUnit units v unit × (finished unit ≡ Some t)
written_at units v t e =
    let there = written_there 0 v t units e in
    let number = there.1 in
    let same : there.0 ≡ v = omega (arith, number) in
    subst (λ u. (unit : Slots) × IsUnit units u unit × (finished unit ≡ Some t)) same there.2
