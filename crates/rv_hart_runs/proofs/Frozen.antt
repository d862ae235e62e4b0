-- The unit of what retires is not frozen, and what is kept of the units of a hart that has not stopped.
use Rattle.std.proofs.Common.{◌≡◌, ◌∙◌, refl, sym, ap, subst, ℕ, zero, suc, ◌+◌, ◌-◌, ◌<◌, List, [], ◌++◌, Option, Some, None, Bool, true, false, inl, inr, arith}
use Rattle.std.specs.Prelude.{filter, not, is_some, if◌then◌else◌, ◌==◌, ◌%◌, ◌&&◌, ◌||◌, replicate, slice_get}
use Rattle.std.proofs.lemmas.Bool.{cases_lt}
use Rattle.std.proofs.lemmas.Nat.{mod_below}
use Rattle.ix_plan.specs.Units.{Slots, finished, unit_written, has_some, is_of, frozen_with, moved_on, next_units}
use Rattle.rv_lawful.specs.LawfulTrace.{serial_in}
use Rattle.rv_lawful.specs.Settings.{Setting}
use Rattle.rv_unit.specs.Entries.{is_number}
use Rattle.rv_harts.specs.Harts.{Fetched, Hart, first_hart}
use Rattle.rv_harts.specs.Turns.{asked}
use Rattle.rv_harts.specs.HartRows.{stages_in, steps, last_in, leaving, unit_entered, owing, stopping, next_hart, hart_at}
use Rattle.rv_hart_runs.proofs.Free.{Free}
use Rattle.rv_hart_runs.proofs.Known.{IsSound, has_unit}
use Rattle.rv_hart_runs.proofs.Passing.{test_same, test_apart, same_number}
use Rattle.rv_hart_runs.proofs.Going.{IsHart, last_none, stopped_stages, leaving_known, hart_is}
use Rattle.rv_hart_runs.proofs.UnitSlots.{none_some, Holds, empty_sole, finished_holds, IsUnit, unit_was, unit_is}
use Rattle.rv_hart_runs.proofs.StatesLists.{in_left, all_kept}
use Rattle.rv_hart_runs.proofs.StatesKept.{IsOrdered, kept_first, kept_next}
use Rattle.rv_hart_runs.proofs.Holding.{AreOwed, AreSole, none_holds, stood, stepped, moved, moved_alone}

-- ---- serials fall from stage to stage

ordered : (k : Setting) → IsSound k → (h n : ℕ) → IsOrdered k (hart_at k h n)
unfolding hart_at
ordered k sound h zero = kept_first k
ordered k sound h (suc n) =
    let a = k.shape.lawful.reads_first in
    let b = k.shape.lawful.memory_late in
    let c = k.shape.lawful.memory_inside in
    kept_next k h n (hart_at k h n) (ordered k sound h n) (omega (arith, a, b, c)) (λ c e. (leaving_known k h n (hart_at k h n) (hart_is k sound h n) c e).past.going)

-- ---- every other row

-- in such a row the hart may have a cell in the last stage
abbrev pub ends_in : Setting → ℕ → ℕ → Bool
ends_in k h n = ((n + (k.shape.stages - 1)) % 2) == h

apart_numbers : (a b : ℕ) → (a == b) ≡ false → a ≡ b → ⊥
apart_numbers a b e same = differ (a == b) e (test_same a b same) where
  differ : (t : Bool) → t ≡ false → t ≡ true → ⊥
  differ t p q = cc

other_half : (a h : ℕ) → h < 2 → (a % 2 ≡ h → ⊥) → suc a % 2 ≡ h
other_half a h low apart = elim (cases_lt (a % 2) h) [
  | inl less ↦ omega (arith, low, less)
  | inr more ↦ elim (cases_lt h (a % 2)) [
    | inl less ↦ let below = mod_below a 2 (omega arith) in omega (arith, low, less, below)
    | inr not ↦ absurd (apart (omega (arith, more, not)))
  ]
]

turns : (k : Setting) (h n : ℕ) → h < 2 → (b : Bool) → ends_in k h n ≡ b → ends_in k h (suc n) ≡ not b
turns k h n low true e =
    let here = same_number ((n + (k.shape.stages - 1)) % 2) h e in
    test_apart ((suc n + (k.shape.stages - 1)) % 2) h (λ there. absurd (omega (arith, low, here, there)))
turns k h n low false e =
    let there = other_half (n + (k.shape.stages - 1)) h low (apart_numbers ((n + (k.shape.stages - 1)) % 2) h e) in
    test_same ((suc n + (k.shape.stages - 1)) % 2) h (omega (arith, there))

-- ---- what is kept

-- what stands in units is owed; in a row that may end one, but for what is written in the row before
pub record AreKept (k : Setting) (h n : ℕ) (g : Hart) : Type 0 where
  pub sole : AreSole g.units
  pub held : AreOwed k g.owed (if ends_in k h n then next_units None g.units else g.units)

none_there : (n s : ℕ) → Holds (replicate n None) s → ⊥
none_there zero s is = absurd is
none_there (suc n) s (inl e) = absurd (none_some s (sym e))
none_there (suc n) s (inr is) = none_there n s is

module _ (k : Setting) (sound : IsSound k) where
  vacant : (u s : ℕ) (slots : Slots) → IsUnit k.units u slots → Holds slots s → ⊥
  vacant u s slots at is = let none = sound.vacant u slots at in none_there none.0 s (subst (λ (l : Slots). Holds l s) none.1 is)

  first_held : (b : Bool) → AreOwed k [] (if b then next_units None k.units else k.units)
  first_held false u slots s at is = absurd (vacant u s slots at is)
  first_held true u slots s at is =
      let was = unit_was None k.units u slots at in
      absurd (vacant u s was.0 was.1 (stood k [] k.units u s was.0 (unit_written k.units) (subst (λ (l : Slots). Holds l s) was.2 is)))

  first_kept : (h : ℕ) → AreKept k h 0 (first_hart k)
  first_kept h = record { sole = λ u slots at. empty_sole slots (λ s is. vacant u s slots at is); held = first_held (ends_in k h 0) }

  -- ---- a row later

  module _ (h n : ℕ) (low : h < 2) (g : Hart) (hart : IsHart k n g) (order : IsOrdered k g) (running : g.stopped ≡ false) (kept : AreKept k h n g) where
    alone : (c : Fetched) (u : ℕ) → leaving k h n g ≡ Some c → (asked k c).unit ≡ Some u → Free (has_unit k u) g.owed
    alone c u e unit = (leaving_known k h n g hart c e).past.unowed u unit

    abbrev owed_with : Bool → List Fetched
    owed_with b = filter (λ (c : Fetched). not (is_number (if b then serial_in (unit_written g.units) else None) c.serial)) g.owed ++ owing k (leaving k h n g)

    abbrev units_with : Bool → List Slots
    units_with b = if b then g.units else next_units (unit_entered k (leaving k h n g)) g.units

    held_now : (b : Bool) → ends_in k h n ≡ b → AreOwed k g.owed (if b then next_units None g.units else g.units)
    held_now b e = subst (λ (x : Bool). AreOwed k g.owed (if x then next_units None g.units else g.units)) e kept.held

    sole_next : (b : Bool) → ends_in k h n ≡ b → AreSole (units_with (not b))
    sole_next true e = moved_alone k g.owed g.units (leaving k h n g) kept.sole (held_now true e) alone
    sole_next false e = kept.sole

    more : (owed : List Fetched) (units : List Slots) → AreOwed k owed units → AreOwed k (owed ++ owing k (leaving k h n g)) units
    more owed units held u slots s at is =
        let o = held u slots s at is in
        record { cell = o.cell; there = in_left o.cell owed (owing k (leaving k h n g)) o.there; serial = o.serial; unit = o.unit }

    held_next : (b : Bool) → ends_in k h n ≡ b → AreOwed k (owed_with (not b)) (if not b then next_units None (units_with (not b)) else units_with (not b))
    held_next true e =
        subst (λ (l : List Fetched). AreOwed k (l ++ owing k (leaving k h n g)) (next_units (unit_entered k (leaving k h n g)) g.units))
        (sym (all_kept (λ (c : Fetched). not (is_number None c.serial)) g.owed (λ c is. refl)))
        (moved k g.owed g.units (leaving k h n g) kept.sole (held_now true e) alone)
    held_next false e =
        more (filter (λ (c : Fetched). not (is_number (serial_in (unit_written g.units)) c.serial)) g.owed) (next_units None g.units)
        (stepped k g.owed g.units kept.sole order.apart (held_now false e))

    steps_then : (b : Bool) → ends_in k h n ≡ b → steps k h n g ≡ not b
    steps_then b e = ap (λ (x : Bool). not x && not g.stopped) e ∙ ap (λ (y : Bool). not b && not y) running ∙ whole (not b) where
      whole : (x : Bool) → (x && true) ≡ x
      whole true = refl
      whole false = refl

    units_kept : AreKept k h (suc n) (next_hart k h n g)
    unfolding next_hart
    units_kept = by_row (ends_in k h n) refl where
      by_row : (b : Bool) → ends_in k h n ≡ b → AreKept k h (suc n) (next_hart k h n g)
      by_row b e = record {
        sole = subst (λ (x : Bool). AreSole (units_with x)) (sym (steps_then b e)) (sole_next b e);
        held =
            subst (λ (x : Bool). AreOwed k (owed_with x) (if ends_in k h (suc n) then next_units None (units_with x) else units_with x)) (sym (steps_then b e))
            (subst (λ (x : Bool). AreOwed k (owed_with (not b)) (if x then next_units None (units_with (not b)) else units_with (not b))) (sym (turns k h n low b e)) (held_next b e));
      }

  not_before : (a b : Bool) → (a || b) ≡ false → a ≡ false
  not_before true b e = cc
  not_before false b e = refl

  kept_at : (h n : ℕ) → h < 2 → (hart_at k h n).stopped ≡ false → AreKept k h n (hart_at k h n)
  unfolding hart_at next_hart
  kept_at h zero low running = first_kept h
  kept_at h (suc n) low running =
      let g = hart_at k h n in
      let before = not_before g.stopped (is_some (stopping k h n g)) running in
      units_kept h n low g (hart_is k sound h n) (ordered k sound h n) before (kept_at h n low before)

  -- ---- what retires

  frozen_has : (b : Bool) (o : Option ℕ) → (if b then false else has_some o) ≡ true → (s : ℕ) × (o ≡ Some s)
  frozen_has true o e = cc
  frozen_has false None e = cc
  frozen_has false (Some s) e = (s, refl)

  module _ (h n u : ℕ) (g : Hart) (slots : Slots) (at : IsUnit g.units u slots) (free : Free (has_unit k u) g.owed) (kept : AreKept k h n g) where
    still_there : frozen_with u slots (unit_written g.units) ≡ true → (b : Bool) → IsUnit (if b then next_units None g.units else g.units) u slots
    still_there test false = at
    still_there test true = unit_is None g.units u slots at ∙ ap (λ (x : Bool). Some (if x then slots else moved_on None slots)) test

    not_frozen : (b : Bool) → frozen_with u slots (unit_written g.units) ≡ b → frozen_with u slots (unit_written g.units) ≡ false
    not_frozen false test = test
    not_frozen true test =
        let last = frozen_has (is_of u (unit_written g.units)) (finished slots) test in
        absurd (none_holds k g.owed u last.0 free (kept.held u slots last.0 (still_there test (ends_in k h n)) (finished_holds slots last.0 last.1)))

  pub enters_at : (h n : ℕ) → h < 2 → (c : Fetched) (u : ℕ) (slots : Slots) → last_in (stages_in k h n (hart_at k h n)) ≡ Some c → (asked k c).unit ≡ Some u →
      slice_get (hart_at k h n).units u ≡ Some slots → frozen_with u slots (unit_written (hart_at k h n).units) ≡ false
  enters_at h n low c u slots e unit at = by_stop (hart_at k h n).stopped refl where
    by_stop : (b : Bool) → (hart_at k h n).stopped ≡ b → frozen_with u slots (unit_written (hart_at k h n).units) ≡ false
    by_stop true stops =
        let none = stopped_stages k h n (hart_at k h n) (hart_is k sound h n) stops in
        absurd (none_some c (sym (last_none (suc (k.shape.stages - 1))) ∙ ap last_in (sym none) ∙ e))
    by_stop false running =
        not_frozen h n u (hart_at k h n) slots at ((leaving_known k h n (hart_at k h n) (hart_is k sound h n) c e).past.unowed u unit) (kept_at h n low running)
        (frozen_with u slots (unit_written (hart_at k h n).units)) refl
