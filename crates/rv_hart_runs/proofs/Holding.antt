-- Each serial that stands in a unit is owed by an instruction of it, so the unit of what retires is not frozen.
use Rattle.std.proofs.Common.{◌≡◌, ◌∙◌, refl, sym, ap, subst, ℕ, List, [], ◌∷◌, ◌++◌, Option, Some, None, Bool, true, false, inl, inr, arith, nat_eq}
use Rattle.std.specs.Prelude.{filter, not, is_some, if◌then◌else◌, slice_get}
use Rattle.ix_plan.specs.Units.{Slots, finished, unit_written, has_some, frozen_with, serial_for, moved_on, next_units}
use Rattle.rv_lawful.specs.LawfulTrace.{serial_in}
use Rattle.rv_lawful.specs.Outstanding.{in_unit}
use Rattle.rv_lawful.specs.Settings.{Setting}
use Rattle.rv_unit.specs.Entries.{is_number}
use Rattle.rv_harts.specs.Harts.{Fetched}
use Rattle.rv_harts.specs.Turns.{asked}
use Rattle.rv_harts.specs.HartRows.{unit_entered, owing}
use Rattle.rv_hart_runs.proofs.Free.{same_some, Free}
use Rattle.rv_hart_runs.proofs.Known.{has_unit}
use Rattle.rv_hart_runs.proofs.Passing.{test_same, test_apart, same_number}
use Rattle.rv_hart_runs.proofs.UnitSlots.{none_some, Holds, IsEmpty, IsSole, finished_holds, moved_from, moved_was, last_moves, moved_sole, unit_after, IsUnit, unit_was, unit_is, written_at}
use Rattle.rv_hart_runs.proofs.StatesLists.{In, in_left, in_right}
use Rattle.rv_hart_runs.proofs.StatesOwed.{AreInTurn}

-- ---- owed cells

in_filtered : (f : Fetched → Bool) (c : Fetched) (owed : List Fetched) → In c owed → f c ≡ true → In c (filter f owed)
in_filtered f c [] is e = absurd is
in_filtered f c (d ∷ owed) (inl same) e = subst (λ (b : Bool). In c (if b then d ∷ filter f owed else filter f owed)) (sym (ap f (sym same) ∙ e)) (inl same)
in_filtered f c (d ∷ owed) (inr is) e = by_test (f d) (in_filtered f c owed is e) where
  by_test : (b : Bool) → In c (filter f owed) → In c (if b then d ∷ filter f owed else filter f owed)
  by_test true rest = inr rest
  by_test false rest = rest

free_in : (f : Fetched → Bool) (c : Fetched) (owed : List Fetched) → Free f owed → In c owed → f c ≡ false
free_in f c [] free is = absurd is
free_in f c (d ∷ owed) free (inl same) = ap f same ∙ free.0
free_in f c (d ∷ owed) free (inr is) = free_in f c owed free.1 is

-- no two have one serial
serial_alone : (k : Setting) (owed : List Fetched) → AreInTurn k owed → (c d : Fetched) → In c owed → In d owed → c.serial ≡ d.serial → c ≡ d
serial_alone k [] turn c d a b e = absurd a
serial_alone k (o ∷ owed) turn c d (inl a) (inl b) e = a ∙ sym b
serial_alone k (o ∷ owed) turn c d (inl a) (inr b) e =
    let less = (turn.0 d b).older in
    let same : c.serial ≡ o.serial = ap (λ (x : Fetched). x.serial) a in
    absurd (omega (arith, less, same, e))
serial_alone k (o ∷ owed) turn c d (inr a) (inl b) e =
    let less = (turn.0 c a).older in
    let same : d.serial ≡ o.serial = ap (λ (x : Fetched). x.serial) b in
    absurd (omega (arith, less, same, e))
serial_alone k (o ∷ owed) turn c d (inr a) (inr b) e = serial_alone k owed turn.1 c d a b e

-- an instruction of this unit with this serial is owed
pub record Owes (k : Setting) (owed : List Fetched) (u s : ℕ) : Type 0 where
  pub cell : Fetched
  pub there : In cell owed
  pub serial : cell.serial ≡ s
  pub unit : (asked k cell).unit ≡ Some u

-- so is each that stands in these units
abbrev pub AreOwed : Setting → List Fetched → List Slots → Type 0
AreOwed k owed units = (u : ℕ) (slots : Slots) (s : ℕ) → IsUnit units u slots → Holds slots s → Owes k owed u s

-- in each of these at most one stands
abbrev pub AreSole : List Slots → Type 0
AreSole units = (u : ℕ) (slots : Slots) → IsUnit units u slots → IsSole slots

-- where nothing is owed of a unit, none stands there
pub none_holds : (k : Setting) (owed : List Fetched) (u s : ℕ) → Free (has_unit k u) owed → Owes k owed u s → ⊥
none_holds k owed u s free o = differ (has_unit k u o.cell) (free_in (has_unit k u) o.cell owed free o.there) (ap (λ (x : Option ℕ). is_number x u) o.unit ∙ test_same u u refl) where
  differ : (b : Bool) → b ≡ false → b ≡ true → ⊥
  differ b p q = cc

-- ---- a row in which the units step

module _ (k : Setting) (owed : List Fetched) (units : List Slots) where
  abbrev kept_of : Option (ℕ × ℕ) → List Fetched
  kept_of written = filter (λ (c : Fetched). not (is_number (serial_in written) c.serial)) owed

  -- what stands in a unit a row later where nothing enters stood there
  pub stood : (u s : ℕ) (unit : Slots) (written : Option (ℕ × ℕ)) → Holds (unit_after u written None unit) s → Holds unit s
  stood u s unit written is = by_test (frozen_with u unit written) is where
    by_test : (b : Bool) → Holds (if b then unit else moved_on None unit) s → Holds unit s
    by_test true is = is
    by_test false is = moved_was unit s is

  module _ (sole : AreSole units) (turn : AreInTurn k owed) (held : AreOwed k owed units) where
    -- another unit than that which is written
    others : (u v s t : ℕ) → nat_eq v u ≡ false → unit_written units ≡ Some (v, t) → Owes k owed u s → Owes k (kept_of (Some (v, t))) u s
    others u v s t apart is o = record { cell = o.cell; there = in_filtered (λ (c : Fetched). not (is_number (Some t) c.serial)) o.cell owed o.there unlike; serial = o.serial; unit = o.unit } where
      at : (unit : Slots) × IsUnit units v unit × (finished unit ≡ Some t)
      at = written_at units v t is

      writer : Owes k owed v t
      writer = held v at.0 t at.1 (finished_holds at.0 t at.2)

      differ : t ≡ o.cell.serial → ⊥
      differ e =
          let same = serial_alone k owed turn writer.cell o.cell writer.there o.there (writer.serial ∙ e) in
          let one : v ≡ u = same_some v u (sym writer.unit ∙ ap (λ (x : Fetched). (asked k x).unit) same ∙ o.unit) in
          apart_numbers (nat_eq v u) apart (test_same v u one) where
            apart_numbers : (b : Bool) → b ≡ false → b ≡ true → ⊥
            apart_numbers b p q = cc

      unlike : not (is_number (Some t) o.cell.serial) ≡ true
      unlike = ap not (test_apart t o.cell.serial differ)

    -- the unit that is written
    itself : (u v s t : ℕ) (unit : Slots) → nat_eq v u ≡ true → unit_written units ≡ Some (v, t) → IsUnit units u unit → Holds (unit_after u (Some (v, t)) None unit) s → ⊥
    itself u v s t unit same is at holds =
        let there = written_at units v t is in
        let one : v ≡ u = same_number v u same in
        let slots : there.0 ≡ unit = same_some there.0 unit (sym there.1 ∙ ap (λ w. slice_get units w) one ∙ at) in
        let last : finished unit ≡ Some t = ap finished (sym slots) ∙ there.2 in
        last_moves unit t (sole u unit at) last s (subst (λ (b : Bool). Holds (if (if b then false else has_some (finished unit)) then unit else moved_on None unit) s) same holds)

    by_written : (written : Option (ℕ × ℕ)) → unit_written units ≡ written → (u s : ℕ) (unit : Slots) → IsUnit units u unit → Holds (unit_after u written None unit) s → Owes k (kept_of written) u s
    by_written None is u s unit at holds =
        let o = held u unit s at (stood u s unit None holds) in
        record { cell = o.cell; there = in_filtered (λ (c : Fetched). not (is_number None c.serial)) o.cell owed o.there refl; serial = o.serial; unit = o.unit }
    by_written (Some (v, t)) is u s unit at holds = by_number (nat_eq v u) refl where
      by_number : (b : Bool) → nat_eq v u ≡ b → Owes k (kept_of (Some (v, t))) u s
      by_number true same = absurd (itself u v s t unit same is at holds)
      by_number false apart = others u v s t apart is (held u unit s at (stood u s unit (Some (v, t)) holds))

    -- what stands there behind the row after it is owed by what is kept
    pub stepped : AreOwed k (kept_of (unit_written units)) (next_units None units)
    stepped u slots s at holds =
        let was = unit_was None units u slots at in
        by_written (unit_written units) refl u s was.0 was.1 (subst (λ (l : Slots). Holds l s) was.2 holds)

-- ---- a row in which they move

entered_owed : (k : Setting) (l : Option Fetched) (u s : ℕ) → serial_for u (unit_entered k l) ≡ Some s → Owes k (owing k l) u s
entered_owed k None u s e = absurd (none_some s e)
entered_owed k (Some c) u s e = by_unit (asked k c).unit refl e where
  by_unit : (o : Option ℕ) → (asked k c).unit ≡ o → serial_for u (in_unit c.serial o) ≡ Some s → Owes k (if is_some o then c ∷ [] else []) u s
  by_unit None is e = absurd (none_some s e)
  by_unit (Some v) is e = by_number (nat_eq v u) refl e where
    by_number : (b : Bool) → nat_eq v u ≡ b → (if b then Some c.serial else None) ≡ Some s → Owes k (c ∷ []) u s
    by_number true same e = record { cell = c; there = inl refl; serial = same_some c.serial s e; unit = is ∙ ap (λ w. Some w) (same_number v u same) }
    by_number false apart e = absurd (none_some s e)

module _ (k : Setting) (owed : List Fetched) (units : List Slots) (l : Option Fetched) (sole : AreSole units) (held : AreOwed k owed (next_units None units))
    (alone : (c : Fetched) (u : ℕ) → l ≡ Some c → (asked k c).unit ≡ Some u → Free (has_unit k u) owed) where
  abbrev retired : Option (ℕ × ℕ)
  retired = unit_entered k l

  before : (u s : ℕ) → Owes k owed u s → Owes k (owed ++ owing k l) u s
  before u s o = record { cell = o.cell; there = in_left o.cell owed (owing k l) o.there; serial = o.serial; unit = o.unit }

  behind : (u s : ℕ) → Owes k (owing k l) u s → Owes k (owed ++ owing k l) u s
  behind u s o = record { cell = o.cell; there = in_right o.cell owed (owing k l) o.there; serial = o.serial; unit = o.unit }

  -- one that moves on, or is frozen, was owed
  was_owed : (u s : ℕ) (unit : Slots) (b : Bool) → IsUnit units u unit → frozen_with u unit (unit_written units) ≡ b → Holds (if b then unit else moved_on None unit) s → Owes k owed u s
  was_owed u s unit b at test holds =
      held u (unit_after u (unit_written units) None unit) s (unit_is None units u unit at) (subst (λ (x : Bool). Holds (if x then unit else moved_on None unit) s) (sym test) holds)

  pub moved : AreOwed k (owed ++ owing k l) (next_units retired units)
  moved u slots s at holds =
      let was = unit_was retired units u slots at in
      by_test was.0 was.1 (frozen_with u was.0 (unit_written units)) refl (subst (λ (x : Slots). Holds x s) was.2 holds) where
        by_test : (unit : Slots) → IsUnit units u unit → (b : Bool) → frozen_with u unit (unit_written units) ≡ b → Holds (if b then unit else moved_on (serial_for u retired) unit) s →
            Owes k (owed ++ owing k l) u s
        by_test unit there true test holds = before u s (was_owed u s unit true there test holds)
        by_test unit there false test holds = elim (moved_from (serial_for u retired) unit s holds) [
          | inl e ↦ behind u s (entered_owed k l u s e)
          | inr is ↦ before u s (was_owed u s unit false there test is)
        ]

  -- what enters a unit finds it empty
  finds_empty : (u s : ℕ) (unit : Slots) → IsUnit units u unit → frozen_with u unit (unit_written units) ≡ false → serial_for u retired ≡ Some s → IsEmpty (moved_on None unit)
  finds_empty u s unit at test e t holds = none_holds k owed u t (free_of l refl (entered_owed k l u s e)) (was_owed u t unit false at test holds) where
    free_of : (o : Option Fetched) → l ≡ o → Owes k (owing k o) u s → Free (has_unit k u) owed
    free_of None is o = absurd o.there
    free_of (Some c) is o = by_unit (is_some (asked k c).unit) o.there where
      by_unit : (b : Bool) → In o.cell (if b then c ∷ [] else []) → Free (has_unit k u) owed
      by_unit true (inl same) = alone c u is (ap (λ (x : Fetched). (asked k x).unit) (sym same) ∙ o.unit)
      by_unit true (inr none) = absurd none
      by_unit false none = absurd none

  pub moved_alone : AreSole (next_units retired units)
  moved_alone u slots at =
      let was = unit_was retired units u slots at in
      subst IsSole (sym was.2) (by_test was.0 was.1 (frozen_with u was.0 (unit_written units)) refl) where
        by_test : (unit : Slots) → IsUnit units u unit → (b : Bool) → frozen_with u unit (unit_written units) ≡ b → IsSole (if b then unit else moved_on (serial_for u retired) unit)
        by_test unit there true test = sole u unit there
        by_test unit there false test = moved_sole (serial_for u retired) unit (sole u unit there) (λ s e. finds_empty u s unit there test e)
