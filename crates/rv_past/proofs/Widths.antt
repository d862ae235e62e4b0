-- Widths of the registers of the future file.
use Rattle.std.proofs.Common.{◌≡◌, ℕ, zero, suc, ◌<◌, List, [], ◌∷◌, get_or, length, Option, Some, None, Bool, true, false, arith}
use Rattle.std.specs.Prelude.{slice_get, IfSome, if◌then◌else◌, ◌&&◌}
use Rattle.ix_bits.specs.declared.number.Bits.{Bits}
use Rattle.ix_extension.specs.Extensions.{ExtensionTree}
use Rattle.ix_eval.specs.Tables.{table}
use Rattle.ix_eval.specs.Evaluated.{type_of_custom}
use Rattle.ix_eval.proofs.Tables.{table_length}
use Rattle.rv_seq.specs.WordEffects.{AreWide}
use Rattle.rv_seq.specs.declared.commit.Slot.{Slot}
use Rattle.rv_seq.specs.declared.commit.Slot.TheVariants.{Absent, Now, Later}
use Rattle.rv_seq.specs.States.{zero_bit}
use Rattle.rv_seq.specs.declared.answer.StepAnswer.{StepAnswer}
use Rattle.rv_seq.specs.declared.answer.StepAnswer.TheVariants.{Done, Stopped}
use Rattle.rv_seq.specs.Commits.{slot_of, with_slot}
use Rattle.rv_seq.specs.Sound.{IsNowWide, IsSound}
use Rattle.rv_asks.specs.declared.asks.Asks.{Asks}
use Rattle.rv_tried.specs.Whole.{AreBlocksWide}
use Rattle.rv_lawful.specs.Outstanding.{Written}
use Rattle.rv_lawful.specs.Future.{is_pending, early_write, late_write, with_writes, early_after, late_after, after_unit}
use Rattle.rv_past.specs.Making.{IsWrittenWide}

table_get : {A : Type 0} (P : ℕ → A → Type 0) (f : ℕ → A) (n : ℕ) → ((r : ℕ) → r < n → P r (f r)) → (r : ℕ) → IfSome (slice_get (table f n) r) (P r)
table_get P f zero h r = tt
table_get P f (suc n) h zero = h 0 (omega arith)
table_get P f (suc n) h (suc r) = table_get (λ k. P (suc k)) (λ k. f (suc k)) n (λ k lt. h (suc k) (omega (arith, lt))) r

-- an element within the list
get_wide : {A : Type 0} (P : A → Type 0) (xs : List A) (r : ℕ) (d : A) → r < length xs → IfSome (slice_get xs r) P → P (get_or xs r d)
get_wide P [] r d lt h = absurd (omega (arith, lt))
get_wide P (x ∷ xs) zero d lt h = h
get_wide P (x ∷ xs) (suc r) d lt h = get_wide P xs r d (omega (arith, lt)) h

with_wide : (width : ℕ) (old : Bits) (s : Slot Bits) → old.width ≡ width → IsNowWide width s → (with_slot old s).width ≡ width
with_wide width old Absent e h = e
with_wide width old (Now v) e h = h
with_wide width old Later e h = e

writes_wide : (x : ExtensionTree) (f : ℕ → Slot Bits) (file : List Bits) → ((r : ℕ) → IsNowWide (type_of_custom x r).width (f r)) → AreWide x file → AreWide x (with_writes f file)
writes_wide x f file s h =
    let g : ℕ → Bits = λ r. with_slot (get_or file r zero_bit) (f r) in
    record {
      count = table_length g 16;
      widths =
          table_get (λ r b. b.width ≡ (type_of_custom x r).width) g 16
          (λ r lt. with_wide (type_of_custom x r).width (get_or file r zero_bit) (f r) (get_wide (λ b. b.width ≡ (type_of_custom x r).width) file r zero_bit (omega (arith, lt, h.count)) (h.widths r)) (s r));
    }

either_wide : (width : ℕ) (b : Bool) (s u : Slot Bits) → IsNowWide width s → IsNowWide width u → IsNowWide width (if b then s else u)
either_wide width true s u h g = h
either_wide width false s u h g = g

pub early_wide : (x : ExtensionTree) (a : Asks) (blocks : List (Option Bits)) (y : StepAnswer) (file : List Bits) → IsSound x y → AreBlocksWide x blocks → AreWide x file → AreWide x (early_after a blocks y file)
early_wide x a blocks (Done c) file s w h =
    writes_wide x (early_write a blocks c) file
    (λ r. either_wide (type_of_custom x r).width (is_pending a r) (slot_of (get_or blocks r None)) (get_or c.custom r Absent) (w r) (s.wide r)) h
early_wide x a blocks (Stopped stop) file s w h = h

pub late_wide : (x : ExtensionTree) (a : Asks) (own : List Bool) (y : StepAnswer) (file : List Bits) → IsSound x y → AreWide x file → AreWide x (late_after a own y file)
late_wide x a own (Done c) file s h =
    writes_wide x (late_write a own c) file
    (λ r. either_wide (type_of_custom x r).width (get_or a.late_customs r false && get_or own r false) (get_or c.custom r Absent) Absent (s.wide r) tt) h
late_wide x a own (Stopped stop) file s h = h

pub unit_wide : (x : ExtensionTree) (o : Option Written) (file : List Bits) → IsWrittenWide x o → AreWide x file → AreWide x (after_unit o file)
unit_wide x None file s h = h
unit_wide x (Some w) file s h = writes_wide x (λ r. get_or w.3 r Absent) file s h
