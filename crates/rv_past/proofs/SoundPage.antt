-- What is made of sound steps is sound.
use Rattle.std.proofs.Common.{◌≡◌, refl, sym, subst, ℕ, zero, suc, ◌≤◌, List, [], ◌∷◌, length, get_or, Option, Some, None, Bool, true, false, arith, inl, inr}
use Rattle.std.specs.Prelude.{replicate, ◌==◌, ◌&&◌, if◌then◌else◌, IfSome}
use Rattle.std.proofs.lemmas.Bool.{cases_lt}
use Rattle.ix_bits.specs.declared.number.Bits.{Bits}
use Rattle.ix_eval.specs.Evaluated.{type_of_custom}
use Rattle.ix_eval.specs.Tables.{table}
use Rattle.ix_eval.proofs.Tables.{table_length, table_at}
use Rattle.ix_extension.specs.Extensions.{ExtensionTree}
use Rattle.rv_asks.specs.declared.asks.Asks.{Asks}
use Rattle.rv_seq.specs.declared.answer.StepAnswer.{StepAnswer}
use Rattle.rv_seq.specs.declared.answer.StepAnswer.TheVariants.{Done, Stopped}
use Rattle.rv_seq.specs.declared.commit.Slot.{Slot}
use Rattle.rv_seq.specs.declared.commit.Slot.TheVariants.{Absent}
use Rattle.rv_seq.specs.Commits.{IsStoredInside}
use Rattle.rv_seq.specs.Sound.{IsNowWide, IsSound}
use Rattle.rv_tried.specs.Parts.{shown, spawned}
use Rattle.rv_past.specs.declared.due.Due.{Due}
use Rattle.rv_past.specs.Making.{record_from, written_from, retired_from, written_where, IsStored, IsWrittenWide}

record_stored : (x : ExtensionTree) (a : Asks) (y : StepAnswer) → IsSound x y → IsStoredInside (record_from a y).store
unfolding shown
record_stored x a (Done c) h = h.inside
record_stored x a (Stopped stop) h = tt

pub stored : (x : ExtensionTree) (next : Due) (o : Option ℕ) → IsSound x next.step.answer → IsStored (retired_from next o)
stored x next None h = tt
stored x next (Some s) h = record_stored x next.asks next.step.answer h

absent_at : (n r : ℕ) → (let slots : List (Slot Bits) = replicate n Absent in get_or slots r Absent ≡ Absent)
absent_at zero r = refl
absent_at (suc n) zero = refl
absent_at (suc n) (suc r) = absent_at n r

past_list : (l : List (Slot Bits)) (r : ℕ) → length l ≤ r → get_or l r Absent ≡ Absent
past_list [] r le = refl
past_list (v ∷ l) zero le = absurd (omega (arith, le))
past_list (v ∷ l) (suc r) le = past_list l r (omega (arith, le))

either_wide : (width : ℕ) (b : Bool) (s : Slot Bits) → IsNowWide width s → IsNowWide width (if b then s else Absent)
either_wide width true s h = h
either_wide width false s h = tt

from_wide : (x : ExtensionTree) (a : Asks) (own : List Bool) (s : ℕ) (y : StepAnswer) → IsSound x y → IsWrittenWide x (Some (written_from a own s y))
unfolding spawned
from_wide x a own s (Done c) h = λ r. at_register r where
  f : ℕ → Slot Bits
  f r = if get_or a.spawned_customs r false && get_or own r false then get_or c.custom r Absent else Absent

  at_register : (r : ℕ) → IsNowWide (type_of_custom x r).width (get_or (table f 16) r Absent)
  at_register r = elim (cases_lt r 16) [
    | inl lt ↦
        subst (λ slot. IsNowWide (type_of_custom x r).width slot) (sym (table_at f 16 r Absent lt))
        (either_wide (type_of_custom x r).width (get_or a.spawned_customs r false && get_or own r false) (get_or c.custom r Absent) (h.wide r))
    | inr le ↦ subst (λ slot. IsNowWide (type_of_custom x r).width slot) (sym (past_list (table f 16) r (let e = table_length f 16 in omega (arith, le, e)))) tt
  ]
from_wide x a own s (Stopped stop) h = λ r. subst (λ slot. IsNowWide (type_of_custom x r).width slot) (sym (absent_at 16 r)) tt

pub wide : (x : ExtensionTree) (writing : Option (ℕ × Due)) (o : Option ℕ) → IfSome writing (λ w. IsSound x w.1.step.answer) → IsWrittenWide x (written_where writing o)
wide x writing None h = tt
wide x None (Some s) h = λ r. subst (λ slot. IsNowWide (type_of_custom x r).width slot) (sym (absent_at 16 r)) tt
wide x (Some w) (Some s) h = by_case (w.0 == s) where
  by_case : (b : Bool) → IsWrittenWide x (Some (if b then written_from w.1.asks w.1.step.own s w.1.step.answer else (s, 0, Absent, replicate 16 Absent)))
  by_case true = from_wide x w.1.asks w.1.step.own s w.1.step.answer h
  by_case false = λ r. subst (λ slot. IsNowWide (type_of_custom x r).width slot) (sym (absent_at 16 r)) tt
