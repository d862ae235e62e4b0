-- What lawful rows retire and write is printed in form.
use Rattle.std.proofs.Common.{◌≡◌, ℕ, zero, suc, ◌+◌, ◌<◌, ◌≤◌, ◌^◌, List, [], ◌∷◌, ◌++◌, length, map, get_or, refl, sym, ap, ◌∙◌, subst, arith, Option, Some, None, Bool, true, false}
use Rattle.std.specs.Prelude.{◌&&◌, if◌then◌else◌}
use Rattle.ix_bits.specs.declared.number.Bits.{Bits}
use Rattle.ix_tree.specs.declared.extension.Register.{Register}
use Rattle.ix_extension.specs.Extensions.{ExtensionTree}
use Rattle.ix_mean.specs.Core.{u1}
use Rattle.ix_behaviour.specs.Behaviours.{type_of_register}
use Rattle.ix_eval.specs.Evaluated.{type_of_custom}
use Rattle.ix_plan.specs.declared.design.Target.TheVariants.{Custom as custom_target}
use Rattle.rv_asks.specs.declared.asks.Asks.{Asks}
use Rattle.rv_seq.specs.declared.commit.Slot.{Slot}
use Rattle.rv_seq.specs.declared.commit.Slot.TheVariants.{Absent, Now, Later}
use Rattle.rv_tried.specs.Parts.{shown_index, shown_x, shown_customs, spawned_index, spawned_x, spawned_customs}
use Rattle.rv_trace.specs.TraceText.{custom_write_text, custom_writes_text}
use Rattle.rv_lawful.specs.Outstanding.{has_target}
use Rattle.rv_reader.proofs.WriteLaws.{IsCustomSlot, AreSlots}
use Rattle.rv_watch.specs.Printed.{widths_of, width_of}
use Rattle.rv_watch.proofs.CountingText.{table_or}
use Rattle.rv_watch.proofs.States.{pattern_fits}
use Rattle.rv_watch.proofs.Retirements.{IsXNamed}
use Rattle.rv_watch.proofs.Committed.{IsXNow, IsCustomNow}

-- ---- slots by their numbers
none_text : (j : ℕ) (slots : List (Slot Bits)) → ((r : ℕ) → get_or slots r Absent ≡ Absent) → custom_writes_text j slots ≡ []
none_text j [] h = refl
none_text j (s ∷ slots) h = ap (λ (z : Slot Bits). custom_write_text j z ++ custom_writes_text (suc j) slots) (h 0) ∙ none_text (suc j) slots (λ r. h (suc r))

slots_good : (late : Bool) (k : ℕ) (widths : List ℕ) (slots : List (Slot Bits)) → k + length widths ≤ 16 → ((r : ℕ) → r < length widths → IsCustomSlot late (get_or widths r 1) (get_or slots r Absent))
    → ((r : ℕ) → length widths ≤ r → get_or slots r Absent ≡ Absent) → AreSlots late k widths slots
slots_good late k [] slots l h g = λ j. none_text j slots (λ r. g r (omega arith))
slots_good late k (w ∷ widths) [] l h g = tt
slots_good late k (w ∷ widths) (s ∷ slots) l h g = (omega (arith, l), h 0 (omega arith), slots_good late (suc k) widths slots (omega (arith, l)) (λ r b. h (suc r) (omega (arith, b))) (λ r b. g (suc r) (omega (arith, b))))

-- the widths of registers
width_at : (rs : List Register) (r : ℕ) → get_or (map width_of rs) r 1 ≡ (get_or (map type_of_register rs) r u1).width
width_at [] r = refl
width_at (x ∷ rs) zero = refl
width_at (x ∷ rs) (suc r) = width_at rs r

pub width_within : (rs : List Register) (r : ℕ) → r < length rs → get_or (map width_of rs) r 0 ≡ (get_or (map type_of_register rs) r u1).width
width_within [] r l = absurd (omega (arith, l))
width_within (x ∷ rs) zero l = refl
width_within (x ∷ rs) (suc r) l = width_within rs r (omega (arith, l))

pub widths_count : (rs : List Register) → length (map width_of rs) ≡ length rs
widths_count [] = refl
widths_count (x ∷ rs) = ap suc (widths_count rs)

-- a write of a custom register that there is, by its width, now or, where that may be, later; or none
abbrev pub IsCustomSome : ExtensionTree → Bool → ℕ → Slot Bits → Type 0
IsCustomSome x late r Absent = Unit {0}
IsCustomSome x late r (Now b) = (b.width ≡ (type_of_custom x r).width) × (r < length x.registers)
IsCustomSome x late r Later = (late ≡ true) × (r < length x.registers)

pub now_some : (x : ExtensionTree) (late : Bool) (r : ℕ) (slot : Slot Bits) → IsCustomNow x r slot → IsCustomSome x late r slot
now_some x late r Absent h = tt
now_some x late r (Now b) h = h
now_some x late r Later h = absurd h

slot_good : (x : ExtensionTree) (late : Bool) (r width : ℕ) (slot : Slot Bits) → width ≡ (type_of_custom x r).width → IsCustomSome x late r slot → IsCustomSlot late width slot
slot_good x late r width Absent w h = tt
slot_good x late r width (Now b) w h =
    let same : b.width ≡ width = h.0 ∙ sym w in
    let below : b.raw < 2 ^ width = subst (λ n. b.raw < 2 ^ n) same b.in_width in
    (same, below, pattern_fits width b.raw below)
slot_good x late r width Later w h = h.0

slot_past : (x : ExtensionTree) (late : Bool) (r : ℕ) (slot : Slot Bits) → length x.registers ≤ r → IsCustomSome x late r slot → slot ≡ Absent
slot_past x late r Absent l h = refl
slot_past x late r (Now b) l h = let p = h.1 in absurd (omega (arith, l, p))
slot_past x late r Later l h = let p = h.1 in absurd (omega (arith, l, p))

pub customs_good : (x : ExtensionTree) (late : Bool) (slots : List (Slot Bits)) → length x.registers ≤ 16 → ((r : ℕ) → IsCustomSome x late r (get_or slots r Absent)) → AreSlots late 0 (widths_of x) slots
customs_good x late slots few h =
    let count = widths_count x.registers in
    slots_good late 0 (widths_of x) slots (omega (arith, few, count))
    (λ r l. slot_good x late r (get_or (widths_of x) r 1) (get_or slots r Absent) (width_at x.registers r) (h r))
    (λ r l. slot_past x late r (get_or slots r Absent) (omega (arith, l, count)) (h r))

-- ---- what a retirement shows
module _ (x : ExtensionTree) (a : Asks) (targets : (c : ℕ) → has_target a (custom_target c) ≡ true → c < length x.registers) (named : (r : ℕ) → a.spawned ≡ Some r → r < 32) where
  shown_named : (o : Option ℕ) (rd : ℕ) (slot : Slot ℕ) → ((r : ℕ) → o ≡ Some r → r < 32) → IsXNow rd slot → IsXNamed true (shown_index o rd) (shown_x o slot)
  shown_named None rd Absent f h = tt
  shown_named None rd (Now v) f h = h
  shown_named None rd Later f h = absurd h
  shown_named (Some r) rd slot f h = (f r refl, refl)

  later_where : (b : Bool) (r : ℕ) (slot : Slot Bits) → (b ≡ true → r < length x.registers) → IsCustomNow x r slot → IsCustomSome x true r (if b then Later else slot)
  later_where true r slot f h = (refl, f refl)
  later_where false r slot f h = now_some x true r slot h

  pub shown_customs_some : (slots : List (Slot Bits)) → ((r : ℕ) → IsCustomNow x r (get_or slots r Absent)) → (r : ℕ) → IsCustomSome x true r (get_or (shown_customs a.spawned_customs slots) r Absent)
  shown_customs_some slots h =
      table_or (IsCustomSome x true) (λ r. if get_or a.spawned_customs r false then Later else get_or slots r Absent) 16 Absent (λ r. later_where (get_or a.spawned_customs r false) r (get_or slots r Absent) (targets r) (h r)) (λ r. tt)

  pub shown_x_named : (rd : ℕ) (slot : Slot ℕ) → IsXNow rd slot → IsXNamed true (shown_index a.spawned rd) (shown_x a.spawned slot)
  shown_x_named rd slot h = shown_named a.spawned rd slot named h

  -- ---- what a unit writes
  spawned_named : (o : Option ℕ) (rd : ℕ) (slot : Slot ℕ) → IsXNow rd slot → IsXNamed false (spawned_index o rd) (spawned_x o slot)
  spawned_named None rd slot h = tt
  spawned_named (Some r) rd Absent h = tt
  spawned_named (Some r) rd (Now v) h = h
  spawned_named (Some r) rd Later h = absurd h

  own_where : (b : Bool) (r : ℕ) (slot : Slot Bits) → IsCustomNow x r slot → IsCustomSome x false r (if b then slot else Absent)
  own_where true r slot h = now_some x false r slot h
  own_where false r slot h = tt

  pub spawned_customs_some : (own : List Bool) (slots : List (Slot Bits)) → ((r : ℕ) → IsCustomNow x r (get_or slots r Absent)) → (r : ℕ) → IsCustomSome x false r (get_or (spawned_customs a.spawned_customs own slots) r Absent)
  spawned_customs_some own slots h =
      table_or (IsCustomSome x false) (λ r. if get_or a.spawned_customs r false && get_or own r false then get_or slots r Absent else Absent) 16 Absent (λ r. own_where (get_or a.spawned_customs r false && get_or own r false) r (get_or slots r Absent) (h r)) (λ r. tt)

  pub spawned_x_named : (rd : ℕ) (slot : Slot ℕ) → IsXNow rd slot → IsXNamed false (spawned_index a.spawned rd) (spawned_x a.spawned slot)
  spawned_x_named rd slot h = spawned_named a.spawned rd slot h
