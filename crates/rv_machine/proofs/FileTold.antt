-- The future file of a machine is that which its rows tell.
use Rattle.std.proofs.Common.{◌≡◌, ℕ, zero, suc, ◌+◌, ◌<◌, ◌≤◌, List, [], ◌∷◌, drop, length, get_or, Option, Some, None, Bool, true, false, refl, sym, ap, ◌∙◌, subst, arith, inl, inr}
use Rattle.std.specs.Prelude.{if◌then◌else◌, ◌||◌, is_some, slice_get}
use Rattle.std.proofs.lemmas.Bool.{cases_lt}
use Rattle.ix_bits.specs.declared.number.Bits.{Bits}
use Rattle.ix_eval.proofs.Tables.{table_length, table_at, table_is}
use Rattle.rv_seq.specs.declared.answer.StepAnswer.{StepAnswer}
use Rattle.rv_seq.specs.declared.answer.StepAnswer.TheVariants.{Done, Stopped}
use Rattle.rv_seq.specs.Commits.{with_slot}
use Rattle.rv_seq.specs.States.{zero_bit}
use Rattle.rv_trace.specs.declared.row.Cell.{Cell}
use Rattle.rv_trace.specs.declared.row.Row.{Row}
use Rattle.rv_trace.specs.Trace.{has_serial, place, retirements}
use Rattle.rv_trace.specs.RowParts.{leaves, name_of}
use Rattle.rv_asks.specs.declared.asks.Asks.{Asks}
use Rattle.rv_tried.specs.declared.trial.Trial.{Trial}
use Rattle.rv_tried.specs.Parts.{shown}
use Rattle.rv_holds.specs.declared.token.Token.{Token}
use Rattle.rv_holds.specs.Tokens.{Slots, cell_of, cells_of}
use Rattle.rv_holds.specs.Flushing.{struck}
use Rattle.rv_engine.specs.declared.owing.Owed.{Owed}
use Rattle.rv_engine.specs.Settings.{Setting, Machine, shape_of, tree_of}
use Rattle.rv_engine.specs.Rows.{going, first_slot, turn_by, seen_by, left_by, executed_by, paid_by, written_of, trial_early, trial_late, file_early, file_late, file_paid, IsRowOf, machine_after}
use Rattle.rv_lawful.specs.Settings as Lawful
use Rattle.rv_lawful.specs.Sight.{asked, IsEarly}
use Rattle.rv_lawful.specs.Future.{early_write, with_writes, early_after, late_after, cell_in, going_on, leaves_execute, after_executed, after_late, after_unit, future_file}
use Rattle.rv_machine.specs.Owing.{judged}
use Rattle.rv_machine.specs.Placed.{run, count, expected, Serials, IsPlaced, IsPlacedSlot, IsReady, Inv}
use Rattle.rv_machine.specs.Told.{NoStops}
use Rattle.rv_machine.proofs.Before as B
use Rattle.rv_machine.proofs.Flushing as F
use Rattle.rv_machine.proofs.Retiring as R
use Rattle.rv_machine.proofs.Future.{early_same}
use Rattle.rv_machine.proofs.Going.{AreSeen, going_placed}
use Rattle.rv_machine.proofs.Past.{slot_of}
use Rattle.rv_machine.proofs.Places.{serials_drop}
use Rattle.rv_machine.proofs.Recorded.{shown_word}
use Rattle.rv_machine.proofs.Settling.{seen_rest}
use Rattle.rv_machine.proofs.Standing.{slice_get-drop}
use Rattle.rv_machine.proofs.NextRow as N

-- what is known of a step by EX writes the same in the file
same_after : (a : Asks) (blocks : List (Option Bits)) (x y : StepAnswer) (file : List Bits) → IsEarly a x y → early_after a blocks x file ≡ early_after a blocks y file
same_after a blocks (Done c) (Done d) file h =
    table_is (with_writes (early_write a blocks c) file) (λ r. with_slot (get_or file r zero_bit) (early_write a blocks d r)) 16 zero_bit
    (table_length (λ r. with_slot (get_or file r zero_bit) (early_write a blocks c r)) 16)
    (λ r lt.
    table_at (λ r. with_slot (get_or file r zero_bit) (early_write a blocks c r)) 16 r zero_bit lt
    ∙ ap (λ s. with_slot (get_or file r zero_bit) s) (early_same a blocks r (Done c) (Done d) h))
same_after a blocks (Stopped s) (Stopped u) file h = refl
same_after a blocks (Done c) (Stopped s) file h = absurd h
same_after a blocks (Stopped s) (Done c) file h = absurd h

-- a cell that is flushed, or held, goes nowhere
flushed_none : (row : Row) (c : Cell) → has_serial row.flushed c.serial ≡ true → going_on row (Some c) ≡ None
flushed_none row c e = rw e (by_case (is_some c.hold)) where
  by_case : (b : Bool) → (if is_some (if b || true then None else name_of (Some c)) then Some c else None) ≡ None
  by_case true = refl
  by_case false = refl

module _ (k : Setting) (ready : IsReady k) (earlier : List Row) (m : Machine) (row : Row) (inv : Inv k earlier m) (is : IsRowOf k m row) where
  abbrev r : ℕ
  r = retirements earlier

  unit_told : (o : Option Owed) (file : List Bits) → after_unit (written_of o) file ≡ file_paid o file
  unit_told None file = refl
  unit_told (Some o) file = refl

  late_told : (file : List Bits) → after_late (judged k) r row.retired file ≡ file_late (left_by k m) file
  late_told file = elim (R.goes_out k ready earlier m row inv is) [
    | inl n ↦ ap (λ o. after_late (judged k) r o file) n.1 ∙ ap (λ o. file_late o file) (sym n.0)
    | inr y ↦
        let t = y.0.token in
        let a = asked k.design t.cell.word in
        let past = ready.mem_last in
        let past_ex = ready.ex_last in
        let here = R.left_is k ready earlier m row inv is t y.0.is_left in
        let g = here.gone (omega (arith, past_ex)) in
        let exact = here.exact g.0 g.1 (λ l. past) in
        ap (λ o. after_late (judged k) r o file) y.0.is_retired
        ∙ ap (λ w. late_after (asked k.design w) ((judged k).course.own r) ((judged k).course.answer r) file) (shown_word a y.0.commit ∙ y.0.word)
        ∙ ap (λ b. late_after b ((judged k).course.own r) ((judged k).course.answer r) file) (sym y.0.asks)
        ∙ ap (λ z. late_after t.asks ((judged k).course.own r) z file) (sym exact.answer)
        ∙ ap (λ l. late_after t.asks l g.0.answer file) (sym exact.own)
        ∙ ap (λ o. trial_late t.asks o file) (sym g.1)
        ∙ ap (λ o. file_late o file) (sym y.0.is_left)
  ]

  module _ (none : NoStops k 0 (seen_by k m)) where
    -- what leaves EX writes what its step writes there
    early_told : (t : Token) (gone : Slots) (file : List Bits) → drop (shape_of k).ex (seen_by k m) ≡ Some t ∷ gone → IsPlaced k (r + count gone) (expected k r (suc (shape_of k).ex) gone) (suc (shape_of k).ex) gone t
        → after_executed (judged k) (row ∷ earlier) (Some t.cell) file ≡ file_early (Some t) file
    early_told t gone file at here =
        let g = here.gone (omega arith) in
        let i = here.tried g.0 g.1 in
        let serials = subst (λ l. Serials (row ∷ earlier) r l) at (serials_drop (row ∷ earlier) r (shape_of k).ex (seen_by k m) (F.seen_serials k ready earlier m row inv is)) in
        ap (λ p. early_after (asked k.design t.cell.word) ((judged k).course.blocks p) ((judged k).course.answer p) file) serials.0.0
        ∙ ap (λ b. early_after b ((judged k).course.blocks (r + count gone)) ((judged k).course.answer (r + count gone)) file) (sym here.asks)
        ∙ sym (same_after t.asks ((judged k).course.blocks (r + count gone)) g.0.answer ((judged k).course.answer (r + count gone)) file i.early)
        ∙ ap (λ l. early_after t.asks l g.0.answer file) (sym i.blocks)
        ∙ ap (λ o. trial_early t.asks o file) (sym g.1)

    -- a cell of EX that is not flushed
    executed_left : (s : Option Token) (gone : Slots) (file : List Bits) → drop (shape_of k).ex (seen_by k m) ≡ s ∷ gone → IsPlacedSlot k (r + count gone) (expected k r (suc (shape_of k).ex) gone) (suc (shape_of k).ex) gone (going s)
        → ((t : Token) → s ≡ Some t → has_serial row.flushed t.cell.serial ≡ false)
        → after_executed (judged k) (row ∷ earlier) (going_on row (cell_of s)) file ≡ file_early (going s) file
    executed_left None gone file at here kept = refl
    executed_left (Some t) gone file at here kept = rw (kept t refl) (by_hold (is_some t.cell.hold) refl) where
      by_hold : (b : Bool) → is_some t.cell.hold ≡ b
          → after_executed (judged k) (row ∷ earlier) (if is_some (if b || false then None else name_of (Some t.cell)) then Some t.cell else None) file ≡ file_early (if b then None else Some t) file
      by_hold true e = refl
      by_hold false e =
          early_told t gone file at
          (subst (λ (b : Bool). IsPlacedSlot k (r + count gone) (expected k r (suc (shape_of k).ex) gone) (suc (shape_of k).ex) gone (if b then None else Some t)) e here)

    executed_told : (file : List Bits) → after_executed (judged k) (row ∷ earlier) (leaves_execute (judged k) row) file ≡ file_early (executed_by k m) file
    executed_told file =
        let n = (shape_of k).ex in
        let a = ready.ex_last in
        let long = B.seen_length k ready earlier m inv in
        let at = slot_of n (seen_by k m) (omega (arith, long, a)) in
        let z : 0 + n ≡ n = omega arith in
        let seen = subst (λ b. AreSeen k r b (at.0 ∷ at.1)) z (seen_rest k r 0 n (seen_by k m) (at.0 ∷ at.1) (B.seen_all k ready earlier m inv none) at.2) in
        let comes = going_placed k ready r n at.0 at.1 seen in
        let runs : executed_by k m ≡ going at.0 = ap (λ (o : Slots). going (first_slot o)) at.2 in
        by_place at.0 at.1 at.2 comes ∙ ap (λ e. file_early e file) (sym runs) where
          here_of : (s : Option Token) (gone : Slots) → drop (shape_of k).ex (seen_by k m) ≡ s ∷ gone → slice_get (seen_by k m) (shape_of k).ex ≡ Some s
          here_of s gone at =
              let z : (shape_of k).ex ≡ (shape_of k).ex + 0 = omega arith in
              ap (λ n. slice_get (seen_by k m) n) z ∙ sym (slice_get-drop (seen_by k m) (shape_of k).ex 0) ∙ ap (λ (l : Slots). slice_get l 0) at

          cells_at : (n : ℕ) (l : Slots) (s : Option Token) → slice_get l n ≡ Some s → slice_get (cells_of l) n ≡ Some (cell_of s)
          cells_at n [] s e = cc
          cells_at zero (x ∷ l) s e = ap (λ (o : Option (Option Token)). cell_in_first o) e where
            cell_in_first : Option (Option Token) → Option (Option Cell)
            cell_in_first None = None
            cell_in_first (Some y) = Some (cell_of y)
          cells_at (suc n) (x ∷ l) s e = cells_at n l s e

          -- in a flushed stage nothing is left
          flushed_told : (s : Option Token) (gone : Slots) → drop (shape_of k).ex (seen_by k m) ≡ s ∷ gone → (shape_of k).ex < struck (turn_by k m) → after_executed (judged k) (row ∷ earlier) (leaves_execute (judged k) row) file ≡ file_early (going s) file
          flushed_told (Some t) gone at lt = let x = F.left_from k ready earlier m row inv is (shape_of k).ex t (here_of (Some t) gone at) in let le = x.0 in absurd (omega (arith, le, lt))
          flushed_told None gone at lt = by_cell (slice_get (Lawful.stages_of (judged k) row) (shape_of k).ex) refl where
            by_cell : (o : Option (Option Cell)) → slice_get (Lawful.stages_of (judged k) row) (shape_of k).ex ≡ o → after_executed (judged k) (row ∷ earlier) (going_on row (cell_in o)) file ≡ file
            by_cell None e = refl
            by_cell (Some None) e = refl
            by_cell (Some (Some c)) e = ap (λ o. after_executed (judged k) (row ∷ earlier) o file) (flushed_none row c (F.stands_flushed k ready earlier m row inv is (shape_of k).ex c lt e).1)

          left_told : (s : Option Token) (gone : Slots) → drop (shape_of k).ex (seen_by k m) ≡ s ∷ gone
              → IsPlacedSlot k (r + count gone) (expected k r (suc (shape_of k).ex) gone) (suc (shape_of k).ex) gone (going s) → struck (turn_by k m) ≤ (shape_of k).ex
              → after_executed (judged k) (row ∷ earlier) (leaves_execute (judged k) row) file ≡ file_early (going s) file
          left_told s gone at comes le =
              ap (λ o. after_executed (judged k) (row ∷ earlier) (going_on row (cell_in o)) file) (F.stands_at k ready earlier m row inv is (shape_of k).ex le ∙ cells_at (shape_of k).ex (seen_by k m) s (here_of s gone at))
              ∙ executed_left s gone file at comes
              (λ t e. let x = F.left_from k ready earlier m row inv is (shape_of k).ex t (here_of s gone at ∙ ap (λ o. Some o) e) in F.none_below k ready earlier m row inv is (shape_of k).ex t x.0 x.1 t.cell.serial (omega arith))

          by_place : (s : Option Token) (gone : Slots) → drop (shape_of k).ex (seen_by k m) ≡ s ∷ gone
              → IsPlacedSlot k (r + count gone) (expected k r (suc (shape_of k).ex) gone) (suc (shape_of k).ex) gone (going s)
              → after_executed (judged k) (row ∷ earlier) (leaves_execute (judged k) row) file ≡ file_early (going s) file
          by_place s gone at comes = elim (cases_lt (shape_of k).ex (struck (turn_by k m))) [
            | inl lt ↦ flushed_told s gone at lt
            | inr le ↦ left_told s gone at comes le
          ]

  -- so the row takes the file of the machine to the next one
  pub file_told : future_file (judged k) earlier ≡ m.future → row.stop ≡ None → future_file (judged k) (row ∷ earlier) ≡ (machine_after k m).future
  unfolding future_file
  file_told before goes =
      ap (λ w. after_executed (judged k) (row ∷ earlier) (leaves_execute (judged k) row) (after_late (judged k) r row.retired (after_unit w (future_file (judged k) earlier)))) is.written
      ∙ ap (λ f. after_executed (judged k) (row ∷ earlier) (leaves_execute (judged k) row) (after_late (judged k) r row.retired f)) (unit_told (paid_by k m) (future_file (judged k) earlier) ∙ ap (λ f. file_paid (paid_by k m) f) before)
      ∙ ap (λ f. after_executed (judged k) (row ∷ earlier) (leaves_execute (judged k) row) f) (late_told (file_paid (paid_by k m) m.future))
      ∙ executed_told (N.no_stop k ready earlier m row inv is goes) (file_late (left_by k m) (file_paid (paid_by k m) m.future))
