-- After a row in which the handler is entered the machine is tied to the rows again, judged by the run that goes there.
use Rattle.std.proofs.Common.{◌≡◌, ℕ, zero, suc, ◌+◌, ◌<◌, ◌≤◌, List, [], ◌∷◌, drop, length, get_or, Option, Some, None, Bool, true, false, refl, sym, ap, ◌∙◌, subst, arith}
use Rattle.std.specs.Prelude.{◌||◌, if◌then◌else◌, is_some, nat_eq, nat_lt}
use Rattle.std.proofs.lemmas.Bool.Decides.{nat_tests}
use Rattle.ix_bits.specs.declared.number.Bits.{Bits}
use Rattle.rv_seq.specs.WordEffects.{AreWide}
use Rattle.rv_seq.specs.declared.arch.Arch.{Arch}
use Rattle.rv_seq.specs.Interrupts.{diverted}
use Rattle.rv_seq.specs.States.{zero_bit}
use Rattle.rv_waits.specs.Waits.{greatest}
use Rattle.rv_trace.specs.declared.row.Row.{Row}
use Rattle.rv_trace.specs.Trace.{place, retirements, rows_without}
use Rattle.rv_trace.specs.RowParts.{unless}
use Rattle.rv_holds.specs.declared.token.Token.{Token}
use Rattle.rv_holds.specs.Tokens.{Slots}
use Rattle.rv_holds.specs.Flushing.{redirect_of, fetch_after}
use Rattle.rv_engine.specs.declared.owing.Owed.{Owed}
use Rattle.rv_engine.specs.Settings.{Setting, Machine, shape_of, tree_of}
use Rattle.rv_engine.specs.Rows.{advanced, new_by, memory_by, turn_by, seen_by, fetch_by, entered_by, written_by, IsRowOf, machine_after}
use Rattle.rv_engine.specs.Rows as Rows
use Rattle.rv_lawful.specs.Entering.{places}
use Rattle.rv_lawful.specs.LawfulTrace.{plain_fetch, fetch_address}
use Rattle.rv_lawful.specs.Outstanding.{after_entry, outstanding}
use Rattle.rv_machine.specs.Owing.{judged, repaid, Owing, Apart}
use Rattle.rv_machine.specs.Placed.{run, count, tail, expected, past_ex, paid_late, paid_file, is_entry, AreExecuted, IsReady, Inv}
use Rattle.rv_machine.proofs.Runs.{entry_custom}
use Rattle.rv_machine.proofs.Carried.{later, run_here, counted_before, same_architecture, same_outstanding, same_units, same_serial, same_executed, same_file, same_owing, word_back}
use Rattle.rv_machine.proofs.Repaid.{repaid_diverted}
use Rattle.rv_machine.proofs.Turns.{entry_turn}
use Rattle.rv_machine.proofs.Entered.{entry_line, entry_fresh, entry_empties, empty_placed}
use Rattle.rv_machine.proofs.Filling.{next_within}
use Rattle.rv_machine.proofs.Moves.{advanced_length}
use Rattle.rv_machine.proofs.Before as B
use Rattle.rv_machine.proofs.Flushing as F
use Rattle.rv_machine.proofs.Retiring as R
use Rattle.rv_machine.proofs.NextRow as N
use Rattle.rv_machine.proofs.Worded as W
use Rattle.rv_machine.proofs.Counting as C
use Rattle.rv_machine.proofs.FewEntries.{few_next}
use Rattle.rv_machine.proofs.FileTold as T
use Rattle.rv_machine.proofs.OwingNext as O
use Rattle.rv_machine.proofs.RepaidNext as P
use Rattle.rv_machine.proofs.ApartNext as A
use Rattle.rv_machine.proofs.Ranged.{ranged_next}
use Rattle.rv_machine.proofs.UnitsNext as U
use Rattle.rv_machine.proofs.GoesNext as G
use Rattle.rv_machine.proofs.GoesNext.{ProgressAfter, more_executed}
use Rattle.rv_machine.proofs.Agreeing.{expected_empty, empty_tail, handler_pc}

-- where there is no token
none_at : {A : Type 0} (n : ℕ) (l older : Slots) (t : Token) → count l ≡ 0 → drop n l ≡ Some t ∷ older → A
none_at n [] older t e d = nothing n d where
  nothing : {A : Type 0} (m : ℕ) → drop {A = Option Token} m [] ≡ Some t ∷ older → A
  nothing zero q = cc
  nothing (suc m) q = cc
none_at zero (None ∷ l) older t e d = cc
none_at (suc n) (None ∷ l) older t e d = none_at n l older t e d
none_at n (Some u ∷ l) older t e d = absurd (omega (arith, e))

count_past : (n : ℕ) (l : Slots) → count l ≡ 0 → count (drop n l) ≡ 0
count_past zero l e = e
count_past (suc n) [] e = refl
count_past (suc n) (None ∷ l) e = count_past n l e
count_past (suc n) (Some t ∷ l) e = absurd (omega (arith, e))

late_none : (k : Setting) (r reg : ℕ) (l : Slots) (v : Bits) → count l ≡ 0 → paid_late k r reg l v ≡ v
late_none k r reg [] v e = refl
late_none k r reg (None ∷ l) v e = late_none k r reg l v e
late_none k r reg (Some t ∷ l) v e = absurd (omega (arith, e))

apart_none : (k : Setting) (owed : List Owed) (stage : ℕ) (l : Slots) → count l ≡ 0 → Apart k owed stage l
apart_none k owed stage [] e = tt
apart_none k owed stage (None ∷ l) e = apart_none k owed (suc stage) l e
apart_none k owed stage (Some t ∷ l) e = absurd (omega (arith, e))

other : (p q : ℕ) → q < p → nat_eq q p ≡ false
other p q lt = grind (arith, nat_tests)

module _ (k : Setting) (ready : IsReady k) (earlier : List Row) (m : Machine) (row : Row) (inv : Inv k earlier m) (is : IsRowOf k m row) (entered : entered_by k m ≡ true) where
  abbrev now : ℕ
  now = retirements (row ∷ earlier)

  abbrev slots : Slots
  slots = advanced None (seen_by k m)

  none : count (advanced None (seen_by k m)) ≡ 0
  none = entry_empties k ready m (B.loaded_length k ready earlier m inv) entered

  none_past : count (drop (suc (shape_of k).ex) (advanced None (seen_by k m))) ≡ 0
  none_past = count_past (suc (shape_of k).ex) (advanced None (seen_by k m)) none

  pub more_places : places (row ∷ earlier) ≡ now ∷ k.places
  unfolding places
  more_places =
      ap (λ (b : Bool). if b then now ∷ places earlier else places earlier) (ap (λ o. is_some o) (is.taken ∙ ap (λ (b : Bool). if b then Some (written_by k m).pc else None) entered))
      ∙ ap (λ l. now ∷ l) (sym inv.entries)

  line : is_some k.lines ≡ true
  line = entry_line k earlier m inv entered

  fresh : is_entry k now ≡ false
  fresh = entry_fresh k ready earlier m row inv _ (R.retired_now k ready earlier m row inv is) entered

  there : run (later k now) now ≡ diverted (shape_of k).trap (run k now)
  there = run_here k now fresh line

  arch_is : (machine_after k m).arch ≡ diverted (shape_of k).trap (written_by k m)
  arch_is = ap (λ (b : Bool). after_entry (shape_of k).trap (if b then Some (written_by k m).pc else None) (written_by k m)) entered

  fetch_is : fetch_by k m ≡ (shape_of k).trap
  fetch_is = ap (λ o. Rows.unless (redirect_of o) (fetch_after m.fetch (seen_by k m))) (entry_turn k m entered)

  address_is : fetch_address (judged (later k now)) (row ∷ earlier) ≡ (shape_of k).trap
  unfolding fetch_address
  address_is = ap (λ o. unless o (plain_fetch (judged (later k now)) earlier (fetch_address (judged (later k now)) earlier) row)) (is.redirect ∙ ap (λ o. redirect_of o) (entry_turn k m entered))

  executed_now : row.stop ≡ None → AreExecuted k (row ∷ earlier) now
  executed_now e = more_executed k (row ∷ earlier) _ now (omega (arith, none_past)) (G.executed_next k ready earlier m row inv is e)

  future_there : row.stop ≡ None → (reg : ℕ) → reg < 16 → paid_late (later k now) now reg (past_ex (later k now) (advanced None (seen_by k m))) (get_or (paid_file (machine_after k m).owed (machine_after k m).future) reg zero_bit) ≡ get_or (run (later k now) (now + count (past_ex (later k now) (advanced None (seen_by k m))))).custom reg zero_bit
  future_there e reg few =
      let gone = drop (suc (shape_of k).ex) (advanced None (seen_by k m)) in
      let v = get_or (paid_file (machine_after k m).owed (machine_after k m).future) reg zero_bit in
      let z : now + count gone ≡ now = omega (arith, none_past) in
      late_none (later k now) now reg gone v none_past
      ∙ sym (late_none k now reg gone v none_past)
      ∙ N.future_next k ready earlier m row inv is e reg few
      ∙ ap (λ p. get_or (run k p).custom reg zero_bit) z
      ∙ ap (λ (l : List Bits). get_or l reg zero_bit) (sym (entry_custom (shape_of k).trap (run k now)) ∙ ap (λ (s : Arch). s.custom) (sym there))
      ∙ ap (λ p. get_or (run (later k now) p).custom reg zero_bit) (sym z)

  pub entry_next : row.stop ≡ None → AreWide (tree_of k) (machine_after k m).future → ProgressAfter k (row ∷ earlier) (machine_after k m) → Inv (later k now) (row ∷ earlier) (machine_after k m)
  entry_next e wide progress =
      let c = N.counted k ready earlier m row inv is e in
      let out = R.retired_now k ready earlier m row inv is in
      record {
        stages = advanced_length None (seen_by k m) ∙ B.seen_length k ready earlier m inv;
        entries = sym more_places;
        past = λ p lt. ap (λ b. b || is_entry k p) (other p now lt) ∙ inv.past p (omega (arith, lt, out));
        rows = ap (λ n. suc n) inv.rows;
        line = G.line_next k ready earlier m row inv is;
        executed = same_executed k now (row ∷ earlier) _ _ (omega arith) (G.executed_next k ready earlier m row inv is e);
        arch =
            ap (λ s. repaid (machine_after k m).owed s) arch_is ∙ repaid_diverted (shape_of k).trap (machine_after k m).owed (written_by k m)
            ∙ ap (λ s. diverted (shape_of k).trap s) (P.repaid_next k ready earlier m row inv is) ∙ sym there;
        ranged = ranged_next k ready earlier m row inv is;
        next_place = F.seen_count k ready earlier m row inv is ∙ omega (arith, c, out);
        next_first = N.next_first k ready earlier m row inv is;
        fetch =
            fetch_is ∙ sym (handler_pc (shape_of k).trap (run k now)) ∙ ap (λ (s : Arch). s.pc) (sym there)
            ∙ sym (expected_empty (later k now) now 1 (tail (advanced None (seen_by k m))) (empty_tail (advanced None (seen_by k m)) none));
        few = next_within m.next (length earlier) m.slots (new_by k m) inv.few;
        few_accesses = let a = N.few_more m.accesses (memory_by k m) in let b = inv.few_accesses in omega (arith, a, b);
        few_stood = let a = N.stood_more m.stood (memory_by k m) in let b = inv.few_stood in omega (arith, a, b);
        accesses =
            C.accesses_next k ready earlier m row inv is (N.no_stop k ready earlier m row inv is e)
            ∙ sym (counted_before k now _ (let z = count_past (suc (shape_of k).mem) (advanced None (seen_by k m)) none in omega (arith, z)));
        stood_is = λ t older d. none_at (shape_of k).mem (advanced None (seen_by k m)) older t none d;
        tail_is = λ n t older d. none_at n (advanced None (seen_by k m)) older t none d;
        future = future_there e;
        future_wide = wide;
        file = same_file k now (row ∷ earlier) (omega arith) (executed_now e) ∙ T.file_told k ready earlier m row inv is inv.file e;
        placed = empty_placed (later k now) now 0 (advanced None (seen_by k m)) none;
        serials = N.serials_next k ready earlier m row inv is e;
        fetch_is = fetch_is ∙ sym address_is;
        next_is = C.serial_now k ready earlier m row inv is ∙ sym (same_serial k now (row ∷ earlier));
        moved = N.moves_now k ready earlier m row inv is e;
        words = λ s word h. N.words_next k ready earlier m row inv is s word (word_back k now (row ∷ earlier) s word h);
        fresh = λ s word h. F.fresh_now k ready earlier m row inv is s word (word_back k now (row ∷ earlier) s word h);
        retired = λ s alive. R.told_retired k ready earlier m row inv is s alive ∙ ap (λ n. nat_lt (place (row ∷ earlier) s) n) (sym out);
        unflushed = F.unflushed_next k ready earlier m row inv is;
        owing =
            subst (λ l. Owing (later k now) (row ∷ earlier) l (machine_after k m).entries (machine_after k m).owed) (sym (same_outstanding k now (row ∷ earlier)))
            (same_owing k now (row ∷ earlier) (outstanding (judged k) (row ∷ earlier)) (machine_after k m).entries (machine_after k m).owed (omega arith) (O.owing_next k ready earlier m row inv is));
        paid = O.paid_next k ready earlier m row inv is;
        worded = λ s word h. W.worded_next k ready earlier m row inv is s word (word_back k now (row ∷ earlier) s word h);
        units = same_units k now (row ∷ earlier) ∙ U.units_next k ready earlier m row inv is;
        timed = U.timed_next k ready earlier m row inv is;
        distinct = A.distinct_next k ready earlier m row inv is;
        apart = apart_none (later k now) (machine_after k m).owed 0 (advanced None (seen_by k m)) none;
        few_entries = few_next k ready earlier m row inv is;
        state = same_architecture k now (row ∷ earlier) (omega arith) ∙ R.architecture_now k ready earlier m row inv is;
        progress = progress;
      }
