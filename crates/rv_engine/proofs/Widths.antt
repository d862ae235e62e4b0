-- Widths of the registers of the future file.
use Rattle.std.proofs.Common.{◌≡◌, ℕ, zero, suc, ◌<◌, ◌≤◌, List, [], ◌∷◌, ◌++◌, get_or, length, Option, Some, None, Bool, true, false, refl, sym, subst, arith, inl, inr}
use Rattle.std.specs.Prelude.{slice_get, IfSome, if◌then◌else◌, ◌&&◌}
use Rattle.std.proofs.lemmas.Bool.{cases_lt}
use Rattle.ix_plan.specs.declared.design.Design.{Design}
use Rattle.rv_unit.specs.declared.entry.Entry.{Entry}
use Rattle.rv_unit.specs.Entries.{does_write}
use Rattle.rv_tried.specs.Parts.{spawned}
use Rattle.rv_engine.specs.declared.owing.Owed.{Owed}
use Rattle.rv_engine.specs.Owing.{Outstanding, paying_among, unpaid_among, unpaid, owed_by_entering, owed_after}
use Rattle.ix_bits.specs.declared.number.Bits.{Bits}
use Rattle.ix_extension.specs.Extensions.{ExtensionTree, view_extension}
use Rattle.ix_eval.specs.Tables.{table}
use Rattle.ix_eval.specs.Evaluated.{type_of_custom}
use Rattle.ix_eval.proofs.Tables.{table_length, table_at}
use Rattle.rv_seq.specs.WordEffects.{AreWide}
use Rattle.rv_seq.specs.declared.commit.Slot.{Slot}
use Rattle.rv_seq.specs.declared.commit.Slot.TheVariants.{Absent, Now, Later}
use Rattle.rv_seq.specs.States.{zero_bit}
use Rattle.rv_seq.specs.declared.answer.StepAnswer.{StepAnswer}
use Rattle.rv_seq.specs.declared.answer.StepAnswer.TheVariants.{Done, Stopped}
use Rattle.rv_seq.specs.Commits.{slot_of, with_slot}
use Rattle.rv_seq.specs.Sound.{IsNowWide, IsSound}
use Rattle.rv_asks.specs.declared.asks.Asks.{Asks}
use Rattle.rv_holds.specs.declared.token.Token.{Token}
use Rattle.rv_tried.specs.declared.trial.Trial.{Trial}
use Rattle.rv_tried.specs.Whole.{AreBlocksWide}
use Rattle.rv_engine.specs.Rows.{trial_early, trial_late, file_early, file_late, file_paid, owed_in, owed_tried, into_unit, entering_of}
use Rattle.rv_lawful.specs.Future.{is_pending, early_write, late_write, with_writes, early_after, late_after}
use Rattle.rv_engine.specs.Kept.{IsSoundTrial, IsFittingSlot, IsWideOwed, AreWideOwed}

table_get : {A : Type 0} (P : ℕ → A → Type 0) (f : ℕ → A) (n : ℕ) → ((r : ℕ) → r < n → P r (f r)) → (r : ℕ) → IfSome (slice_get (table f n) r) (P r)
table_get P f zero h r = tt
table_get P f (suc n) h zero = h 0 (omega arith)
table_get P f (suc n) h (suc r) = table_get (λ k. P (suc k)) (λ k. f (suc k)) n (λ k lt. h (suc k) (omega (arith, lt))) r

-- an element within the list
get_wide : {A : Type 0} (P : A → Type 0) (xs : List A) (r : ℕ) (d : A) → r < length xs → IfSome (slice_get xs r) P → P (get_or xs r d)
get_wide P [] r d lt h = absurd (omega (arith, lt))
get_wide P (x ∷ xs) zero d lt h = h
get_wide P (x ∷ xs) (suc r) d lt h = get_wide P xs r d (omega (arith, lt)) h

with_wide : (width : ℕ) (old : Bits) (s : Slot Bits) → old.width ≡ width → IsNowWide width s → (with_slot old s).width ≡ width
with_wide width old Absent e h = e
with_wide width old (Now v) e h = h
with_wide width old Later e h = e

writes_wide : (x : ExtensionTree) (f : ℕ → Slot Bits) (file : List Bits) → ((r : ℕ) → IsNowWide (type_of_custom x r).width (f r)) → AreWide x file → AreWide x (with_writes f file)
writes_wide x f file s h =
    let g : ℕ → Bits = λ r. with_slot (get_or file r zero_bit) (f r) in
    record {
      count = table_length g 16;
      widths =
          table_get (λ r b. b.width ≡ (type_of_custom x r).width) g 16
          (λ r lt. with_wide (type_of_custom x r).width (get_or file r zero_bit) (f r) (get_wide (λ b. b.width ≡ (type_of_custom x r).width) file r zero_bit (omega (arith, lt, h.count)) (h.widths r)) (s r));
    }

either_wide : (width : ℕ) (b : Bool) (s u : Slot Bits) → IsNowWide width s → IsNowWide width u → IsNowWide width (if b then s else u)
either_wide width true s u h g = h
either_wide width false s u h g = g

early_wide : (x : ExtensionTree) (a : Asks) (blocks : List (Option Bits)) (y : StepAnswer) (file : List Bits) → IsSound x y → AreBlocksWide x blocks → AreWide x file → AreWide x (early_after a blocks y file)
early_wide x a blocks (Done c) file s w h =
    writes_wide x (early_write a blocks c) file
    (λ r. either_wide (type_of_custom x r).width (is_pending a r) (slot_of (get_or blocks r None)) (get_or c.custom r Absent) (w r) (s.wide r)) h
early_wide x a blocks (Stopped stop) file s w h = h

late_wide : (x : ExtensionTree) (a : Asks) (own : List Bool) (y : StepAnswer) (file : List Bits) → IsSound x y → AreWide x file → AreWide x (late_after a own y file)
late_wide x a own (Done c) file s h =
    writes_wide x (late_write a own c) file
    (λ r. either_wide (type_of_custom x r).width (get_or a.late_customs r false && get_or own r false) (get_or c.custom r Absent) Absent (s.wide r) tt) h
late_wide x a own (Stopped stop) file s h = h

trial_early_wide : (x : ExtensionTree) (a : Asks) (o : Option Trial) (file : List Bits) → IsSoundTrial x o → AreWide x file → AreWide x (trial_early a o file)
trial_early_wide x a None file s h = h
trial_early_wide x a (Some trial) file s h = early_wide x a trial.blocks trial.answer file s.0 s.1 h

trial_late_wide : (x : ExtensionTree) (a : Asks) (o : Option Trial) (file : List Bits) → IsSoundTrial x o → AreWide x file → AreWide x (trial_late a o file)
trial_late_wide x a None file s h = h
trial_late_wide x a (Some trial) file s h = late_wide x a trial.own trial.answer file s.0 h

pub early_file_wide : (d : Design) (s : Option Token) (file : List Bits) → IsFittingSlot d s → AreWide (view_extension d.extension) file → AreWide (view_extension d.extension) (file_early s file)
early_file_wide d None file f h = h
early_file_wide d (Some t) file f h = trial_early_wide (view_extension d.extension) t.asks t.trial file f.sound h

pub late_file_wide : (d : Design) (s : Option Token) (file : List Bits) → IsFittingSlot d s → AreWide (view_extension d.extension) file → AreWide (view_extension d.extension) (file_late s file)
late_file_wide d None file f h = h
late_file_wide d (Some t) file f h = trial_late_wide (view_extension d.extension) t.asks t.trial file f.sound h

-- ---- what is owed

pub paid_file_wide : (x : ExtensionTree) (o : Option Owed) (file : List Bits) → IfSome o (IsWideOwed x) → AreWide x file → AreWide x (file_paid o file)
paid_file_wide x None file f h = h
paid_file_wide x (Some o) file f h = writes_wide x (λ r. get_or o.writes.custom r Absent) file f h

pub paying_wide : (x : ExtensionTree) (lasts : List ℕ) (all l : List Entry) (owed : List Owed) → AreWideOwed x owed → IfSome (paying_among lasts all l owed) (IsWideOwed x)
paying_wide x lasts all [] owed h = tt
paying_wide x lasts all (e ∷ l) [] h = tt
paying_wide x lasts all (e ∷ l) (o ∷ owed) h = by_case (does_write lasts all e) (paying_wide x lasts all l owed h.1) where
  by_case : (b : Bool) → IfSome (paying_among lasts all l owed) (IsWideOwed x) → IfSome (if b then Some o else paying_among lasts all l owed) (IsWideOwed x)
  by_case true rest = h.0
  by_case false rest = rest

unpaid_wide : (x : ExtensionTree) (lasts : List ℕ) (all l : List Entry) (owed : List Owed) → AreWideOwed x owed → AreWideOwed x (unpaid_among lasts all l owed)
unpaid_wide x lasts all [] owed h = tt
unpaid_wide x lasts all (e ∷ l) [] h = tt
unpaid_wide x lasts all (e ∷ l) (o ∷ owed) h = by_case (does_write lasts all e) (unpaid_wide x lasts all l owed h.1) where
  by_case : (b : Bool) → AreWideOwed x (unpaid_among lasts all l owed) → AreWideOwed x (if b then unpaid_among lasts all l owed else o ∷ unpaid_among lasts all l owed)
  by_case true rest = rest
  by_case false rest = (h.0, rest)

past_list : (l : List (Slot Bits)) (r : ℕ) → length l ≤ r → get_or l r Absent ≡ Absent
past_list [] r le = refl
past_list (v ∷ l) zero le = absurd (omega (arith, le))
past_list (v ∷ l) (suc r) le = past_list l r (omega (arith, le))

-- what a sound record owes
spawned_wide : (x : ExtensionTree) (s : ℕ) (a : Asks) (own : List Bool) (y : StepAnswer) → IsSound x y → IfSome (owed_in s a own y) (IsWideOwed x)
unfolding spawned
spawned_wide x s a own (Done c) h = λ r. at_register r where
  f : ℕ → Slot Bits
  f r = if get_or a.spawned_customs r false && get_or own r false then get_or c.custom r Absent else Absent

  at_register : (r : ℕ) → IsNowWide (type_of_custom x r).width (get_or (table f 16) r Absent)
  at_register r = elim (cases_lt r 16) [
    | inl lt ↦
        subst (λ slot. IsNowWide (type_of_custom x r).width slot) (sym (table_at f 16 r Absent lt))
        (either_wide (type_of_custom x r).width (get_or a.spawned_customs r false && get_or own r false) (get_or c.custom r Absent) Absent (h.wide r) tt)
    | inr le ↦ subst (λ slot. IsNowWide (type_of_custom x r).width slot) (sym (past_list (table f 16) r (let e = table_length f 16 in omega (arith, le, e)))) tt
  ]
spawned_wide x s a own (Stopped stop) h = tt

tried_wide : (x : ExtensionTree) (s : ℕ) (a : Asks) (o : Option Trial) → IsSoundTrial x o → IfSome (owed_tried s a o) (IsWideOwed x)
tried_wide x s a None h = tt
tried_wide x s a (Some trial) h = spawned_wide x s a trial.own trial.answer h.0

into_wide : (x : ExtensionTree) (u : Option ℕ) (o : Option Owed) → IfSome o (IsWideOwed x) → AreWideOwed x (owed_by_entering (into_unit u o))
into_wide x None o h = tt
into_wide x (Some u) None h = tt
into_wide x (Some u) (Some o) h = (h, tt)

entering_wide : (d : Design) (s : Option Token) → IsFittingSlot d s → AreWideOwed (view_extension d.extension) (owed_by_entering (entering_of s))
entering_wide d None h = tt
entering_wide d (Some t) h = into_wide (view_extension d.extension) t.asks.unit (owed_tried t.cell.serial t.asks t.trial) (tried_wide (view_extension d.extension) t.cell.serial t.asks t.trial h.sound)

both_wide : (x : ExtensionTree) (a b : List Owed) → AreWideOwed x a → AreWideOwed x b → AreWideOwed x (a ++ b)
both_wide x [] b h g = g
both_wide x (o ∷ a) b h g = (h.0, both_wide x a b h.1 g)

pub after_wide : (d : Design) (o : Outstanding) (s : Option Token) → IsFittingSlot d s → AreWideOwed (view_extension d.extension) o.owed → AreWideOwed (view_extension d.extension) (owed_after o (entering_of s))
after_wide d o s f h =
    both_wide (view_extension d.extension) (owed_by_entering (entering_of s)) (unpaid o) (entering_wide d s f)
    (unpaid_wide (view_extension d.extension) o.lasts o.entries o.entries o.owed h)
