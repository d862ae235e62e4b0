-- Each row that the machine makes agrees with the run.
use Rattle.rv_machine.proofs.Turns.{entry_turn}
use Rattle.rv_machine.proofs.Entered.{entry_line, entry_fresh, entry_struck}
use Rattle.rv_machine.proofs.Repaid.{repaid_diverted}
use Rattle.rv_machine.proofs.Carried.{later, same_outstanding, same_architecture, same_owing, run_here}
use Rattle.rv_seq.specs.Interrupts.{diverted}
use Rattle.rv_lawful.specs.Entering.{places}
use Rattle.std.proofs.Common.{◌≡◌, ℕ, suc, ◌+◌, ◌<◌, ◌≤◌, List, [], ◌∷◌, drop, length, Option, Some, None, Bool, true, false, refl, sym, ap, ◌∙◌, subst, arith}
use Rattle.std.specs.Prelude.{◌||◌, if◌then◌else◌, is_some}
use Rattle.std.proofs.lemmas.List.{length-drop}
use Rattle.ix_extension.specs.Extensions.{ExtensionTree}
use Rattle.rv_seq.specs.declared.arch.Arch.{Arch}
use Rattle.rv_seq.specs.declared.commit.Commit.{Commit}
use Rattle.rv_seq.specs.declared.commit.Stop.{Stop}
use Rattle.rv_seq.specs.declared.commit.Stop.TheVariants.{Fetch}
use Rattle.rv_seq.specs.declared.answer.StepAnswer.TheVariants.{Stopped}
use Rattle.rv_seq.specs.Steps.{word_at, of_word, step}
use Rattle.rv_machine.proofs.Retiring as R
use Rattle.rv_engine.specs.Rows as Rows
use Rattle.rv_trace.specs.declared.row.Cell.{Cell}
use Rattle.rv_trace.specs.declared.row.Row.{Row}
use Rattle.rv_trace.specs.Trace.{place, is_retired, retirements}
use Rattle.rv_holds.specs.declared.token.Token.{Token}
use Rattle.rv_holds.specs.Tokens.{Slots, or_else}
use Rattle.rv_holds.specs.Holds.{staying, stops_now, left_behind, entering}
use Rattle.rv_holds.specs.Flushing.{slot_stop, remains, redirect_of, fetch_after}
use Rattle.rv_engine.specs.Settings.{Setting, Machine, shape_of, tree_of}
use Rattle.rv_engine.specs.Rows.{waited, advanced, retired_of, seen_by, fetch_by, left_by, machine_after, entered_by, written_by}
use Rattle.rv_lawful.specs.Headline.{IsRecord, IsSpawnWrite, AgreesWithRun}
use Rattle.rv_lawful.specs.Outstanding.{Written, Decoupled, after_owed, outstanding, after_spawned, is_written, after_entry, architecture, applied_state}
use Rattle.rv_lawful.specs.Sight.{asked}
use Rattle.rv_lawful.specs.LawfulTrace.{StopsRun}
use Rattle.rv_engine.specs.Rows.{written_of, paid_by, is_owing, outstanding_by}
use Rattle.rv_machine.specs.Owing.{judged, IsOwing, Owing, repaid}
use Rattle.rv_machine.specs.Placed.{run, count, tail, expected, IsReady, at_places, is_entry}
use Rattle.rv_machine.specs.Told.{out_of}
use Rattle.rv_machine.specs.Made.{Made}
use Rattle.rv_machine.proofs.Standing.{here_of, At, out_le, out_drop, StayingIs, staying_is}
use Rattle.rv_machine.proofs.OwnHolds.{ordered, stops_then}
use Rattle.rv_machine.proofs.Stopping.{stopper, no_stops}
use Rattle.rv_machine.specs.Left.{Left}
use Rattle.rv_machine.proofs.Succeeding as S
use Rattle.rv_machine.proofs.Lawful as L
use Rattle.rv_machine.proofs.Settled.{none_behind, fetch_case, stop_settled}
use Rattle.rv_machine.proofs.Owes.{paid_is}
use Rattle.rv_unit.specs.Numbering.{lasts_of}
use Rattle.rv_unit.specs.declared.entry.Entry.{Entry}
use Rattle.rv_engine.specs.declared.owing.Owed.{Owed}
use Rattle.rv_tried.specs.Parts.{spawned, paid, shown}

-- where nothing is left behind no older token stays
none_stays : (t : Token) (older : Slots) → left_behind t older ≡ None → staying older ≡ None
none_stays t older h = by_case t.beside.left (entering older) h where
  by_case : (a b : Option ℕ) → or_else a (or_else b (staying older)) ≡ None → staying older ≡ None
  by_case None None q = q
  by_case None (Some j) q = cc
  by_case (Some i) b q = cc

-- what stops the run has no older token that stays
no_drain : (k : Setting) (stage : ℕ) (t : Token) (older : Slots) → stops_now (shape_of k) stage t older ≡ true → staying older ≡ None
no_drain k stage t older n = none_stays t older (none_behind k stage t older n)

-- where no token is left, the address is the run's
pub expected_empty : (k : Setting) (r stage : ℕ) (l : Slots) → count l ≡ 0 → expected k r stage l ≡ (run k r).pc
expected_empty k r stage [] e = refl
expected_empty k r stage (None ∷ l) e = expected_empty k r (suc stage) l e
expected_empty k r stage (Some t ∷ l) e = absurd (omega (arith, e))

empty_advanced : (l : Slots) → remains l ≡ false → count (advanced None l) ≡ 0
empty_advanced [] h = refl
empty_advanced (None ∷ l) h = empty_advanced l h
empty_advanced (Some t ∷ []) h = ap (λ (b : Bool). count ((if b then Some (waited t) else None) ∷ [])) h
empty_advanced (Some t ∷ u ∷ l) h = cc

pub empty_tail : (l : Slots) → count l ≡ 0 → count (tail l) ≡ 0
empty_tail [] e = refl
empty_tail (None ∷ l) e = e
empty_tail (Some t ∷ l) e = absurd (omega (arith, e))

-- a run with no word at its pc stops
no_word : (x : ExtensionTree) (image : List ℕ) (s : Arch) → word_at image s.pc ≡ None → step x image s ≡ Stopped Fetch
unfolding step
no_word x image s e = ap (λ o. of_word x s o) e

pub handler_pc : (handler : ℕ) (s : Arch) → (diverted handler s).pc ≡ handler
unfolding diverted
handler_pc handler s = refl

-- what the outstanding instructions owe is what the machine keeps of them
owed_one : (k : Setting) (rows : List Row) (o : Decoupled) (e : Entry) (w : Owed) (s : Arch) → IsOwing k rows o e w → after_spawned (judged k) (place rows o.0) ((judged k).course.answer (place rows o.0)) s ≡ paid w.writes s
owed_one k rows o e w s h =
    ap (λ a. after_spawned (judged k) (place rows o.0) a s) h.step
    ∙ ap (λ c. paid (spawned (asked k.design c) ((judged k).course.own (place rows o.0)) h.commit) s) h.word
    ∙ ap (λ a. paid (spawned a ((judged k).course.own (place rows o.0)) h.commit) s) (sym h.asks)
    ∙ ap (λ v. paid v s) (sym h.writes)

owed_repaid : (k : Setting) (rows : List Row) (outs : List Decoupled) (entries : List Entry) (owed : List Owed) (s : Arch) → Owing k rows outs entries owed → after_owed (judged k) rows outs s ≡ repaid owed s
owed_repaid k rows [] [] [] s h = refl
owed_repaid k rows [] [] (w ∷ owed) s h = absurd h
owed_repaid k rows [] (e ∷ entries) owed s h = absurd h
owed_repaid k rows (o ∷ outs) [] owed s h = absurd h
owed_repaid k rows (o ∷ outs) (e ∷ entries) [] s h = absurd h
owed_repaid k rows (o ∷ outs) (e ∷ entries) (w ∷ owed) s h =
    ap (λ z. after_spawned (judged k) (place rows o.0) ((judged k).course.answer (place rows o.0)) z) (owed_repaid k rows outs entries owed s h.2)
    ∙ owed_one k rows o e w (repaid owed s) h.0

-- what an outstanding instruction owes is what its step spawns
owing_written : (k : Setting) (rows : List Row) (o : Decoupled) (e : Entry) (w : Owed) → IsOwing k rows o e w → IsSpawnWrite (judged k) rows (w.serial, w.writes.rd_index, w.writes.rd, w.writes.custom)
owing_written k rows o e w h = record {
  commit = h.commit;
  step = ap (λ s. (judged k).course.answer (place rows s)) h.owed ∙ h.step;
  values =
      h.writes
      ∙ ap (λ a. spawned a ((judged k).course.own (place rows o.0)) h.commit) (h.asks ∙ ap (λ c. asked k.design c) (sym h.word))
      ∙ ap (λ s. spawned (asked k.design h.commit.word) ((judged k).course.own (place rows s)) h.commit) (sym h.owed);
  retired = ap (λ s. is_retired rows s) h.owed ∙ h.retired;
  once = ap (λ s. is_written rows s) h.owed ∙ h.unwritten;
}

module _ (k : Setting) (ready : IsReady k) (earlier : List Row) (m : Machine) (row : Row) (made : Made k earlier m row) (left : Left k earlier m row) where
  -- what is retired

  retired_at : (s : ℕ) (c : Commit) → row.retired ≡ Some (s, c) → (place (row ∷ earlier) s ≡ retirements earlier) × IsRecord (judged k) (retirements earlier) c
  retired_at s c e = by_left (left_by k m) refl where
    same_pair : (a b : ℕ × Commit) → ◌≡◌ {A = Option (ℕ × Commit)} (Some a) (Some b) → a ≡ b
    same_pair a b q = cc

    by_left : (o : Option Token) → left_by k m ≡ o → (place (row ∷ earlier) s ≡ retirements earlier) × IsRecord (judged k) (retirements earlier) c
    by_left None g = cc (made.is.retired ∙ ap retired_of g, e)
    by_left (Some t) g =
        let x = made.retires t g in
        let pair = same_pair (t.cell.serial, shown (asked k.design t.cell.word) x.0) (s, c) (sym (made.is.retired ∙ ap retired_of g ∙ x.3) ∙ e) in (
          ap (λ (p : ℕ × Commit). place (row ∷ earlier) p.0) (sym pair) ∙ left.serial t g,
          (x.0, left.recorded t x.0 g x.1, ap (λ (p : ℕ × Commit). p.1) (sym pair) ∙ ap (λ w. shown (asked k.design w) x.0) (sym x.2)),
        )

  -- at the stop every older token goes out
  stop_place : (stage : ℕ) (c : Cell) (stop : Stop) (at : At k (retirements earlier) stage c (seen_by k m)) → StopsRun (judged k) earlier row stage c stop → retirements earlier + count at.older ≡ retirements earlier + out_of (seen_by k m)
  stop_place stage c stop at s =
      let s' = subst (λ d. StopsRun (judged k) earlier row stage d stop) (sym at.is) s in
      let n = stops_then k ready earlier row (seen_by k m) made.told stage at.token at.older at.rest at.placed stop s' in
      let o = ordered k ready earlier row (seen_by k m) made.told stage at.token at.older at.rest at.placed in
      let all = subst (λ z. StayingIs (row ∷ earlier) (retirements earlier) at.older z) (no_drain k stage at.token at.older n) (staying_is (row ∷ earlier) (retirements earlier) at.older o.1) in
      all_out at.older at.token all (longer at.older at.token at.rest s.executing) at.rest where
        longer : (older : Slots) (t : Token) → drop stage (seen_by k m) ≡ Some t ∷ older → stage ≡ (shape_of k).ex → 0 < length older
        longer older t rest e =
            let l = ap length rest in
            let d = length-drop stage (seen_by k m) in
            let a = ready.ex_last in
            let n = L.seen_length k ready earlier m row made in
            omega (arith, l, d, a, e, n)

        all_out : (older : Slots) (t : Token) → count older ≤ out_of older → 0 < length older → drop stage (seen_by k m) ≡ Some t ∷ older → retirements earlier + count older ≡ retirements earlier + out_of (seen_by k m)
        all_out [] t ge lt rest = absurd (omega arith)
        all_out (u ∷ others) t ge lt rest =
            let same = out_drop (seen_by k m) (u ∷ others) (Some t) stage rest in
            let le = out_le (u ∷ others) in
            omega (arith, same, le, ge)

  stop_agrees : entered_by k m ≡ false → (stop : Stop) → row.stop ≡ Some stop → (judged k).course.answer (retirements (row ∷ earlier)) ≡ Stopped stop
  stop_agrees plain stop e = why (slot_stop (shape_of k) 0 (seen_by k m)) refl (sym made.stop_is ∙ e) where
    why : (o : Option Stop) → slot_stop (shape_of k) 0 (seen_by k m) ≡ o → or_else o (if remains (seen_by k m) || (is_owing (outstanding_by k m).owed || is_some (word_at k.image (fetch_by k m))) then None else Some Fetch) ≡ Some stop → (judged k).course.answer (retirements (row ∷ earlier)) ≡ Stopped stop
    why (Some s) q e =
        let x = stopper k 0 (seen_by k m) stop (q ∙ e) in
        let y = L.stopper_stops k ready earlier m row made stop x in
        let low = S.left_from k ready earlier m row made x.index x.token (here_of (seen_by k m) x.older x.token x.index x.rest) in
        let at = S.cell_at k ready earlier m row made x.index x.token.cell low y.0 in
        let p = ap (λ (d : Cell). place (row ∷ earlier) d.serial) (sym at.is) ∙ (ordered k ready earlier row (seen_by k m) made.told x.index at.token at.older at.rest at.placed).0.0 ∙ stop_place x.index x.token.cell stop at y.1 ∙ sym left.now in
        ap (λ n. (judged k).course.answer n) (sym p) ∙ y.1.due
    why None q e =
        let f = fetch_case (remains (seen_by k m)) (outstanding_by k m).owed (word_at k.image (fetch_by k m)) stop e in
        let gone = empty_tail (advanced None (seen_by k m)) (empty_advanced (seen_by k m) f.0) in
        let at : fetch_by k m ≡ (run k (retirements (row ∷ earlier))).pc = left.fetch plain (no_stops k 0 (seen_by k m) q) ∙ expected_empty k (retirements (row ∷ earlier)) 1 (tail (advanced None (seen_by k m))) gone in
        no_word (tree_of k) k.image (run k (retirements (row ∷ earlier))) (ap (λ n. word_at k.image n) (sym at) ∙ f.2) ∙ ap (λ z. Stopped z) (sym f.3)

  -- what is written is owed
  spawn_written : (w : Written) → row.written ≡ Some w → IsSpawnWrite (judged k) earlier w
  spawn_written w e = by_paid (paid_by k m) refl where
    by_paid : (p : Option Owed) → paid_by k m ≡ p → IsSpawnWrite (judged k) earlier w
    by_paid None q = cc (made.is.written ∙ ap written_of q, e)
    by_paid (Some v) q =
        let x = paid_is k earlier (shape_of k).stages (lasts_of k.design.plans) m.entries (outstanding (judged k) earlier) m.entries m.owed v made.inv.owing q in
        subst (λ z. IsSpawnWrite (judged k) earlier z) (same_written (v.serial, v.writes.rd_index, v.writes.rd, v.writes.custom) w (sym (made.is.written ∙ ap written_of q) ∙ e)) (owing_written k earlier x.0 x.1 v x.2) where
          same_written : (a b : Written) → ◌≡◌ {A = Option Written} (Some a) (Some b) → a ≡ b
          same_written a b y = cc

  -- the places after the row
  abbrev next : Setting
  next = at_places k (places (row ∷ earlier))

  abbrev now : ℕ
  now = retirements (row ∷ earlier)

  same_places : entered_by k m ≡ false → places (row ∷ earlier) ≡ k.places
  unfolding places
  same_places plain =
      ap (λ (b : Bool). if b then now ∷ places earlier else places earlier) (ap (λ o. is_some o) (made.is.taken ∙ ap (λ (b : Bool). if b then Some (written_by k m).pc else None) plain))
      ∙ sym made.inv.entries

  more_places : entered_by k m ≡ true → places (row ∷ earlier) ≡ now ∷ k.places
  unfolding places
  more_places e =
      ap (λ (b : Bool). if b then now ∷ places earlier else places earlier) (ap (λ o. is_some o) (S.taken_at k ready earlier m row made e))
      ∙ ap (λ l. now ∷ l) (sym made.inv.entries)

  -- where an interrupt is to be taken there is a line, and the run did not go to the handler here
  has_line : entered_by k m ≡ true → is_some k.lines ≡ true
  has_line e = entry_line k earlier m made.inv e

  not_here : entered_by k m ≡ true → is_entry k now ≡ false
  not_here e = entry_fresh k ready earlier m row made.inv (out_of (seen_by k m)) (R.retired_now k ready earlier m row made.inv made.is) e

  -- the state with what is owed
  owed_state : after_owed (judged k) (row ∷ earlier) (outstanding (judged k) (row ∷ earlier)) (written_by k m) ≡ run k now
  owed_state =
      owed_repaid k (row ∷ earlier) (outstanding (judged k) (row ∷ earlier)) (machine_after k m).entries (machine_after k m).owed (written_by k m) left.owing
      ∙ left.applied

  plain_state : entered_by k m ≡ false → applied_state (tree_of k) (judged k) (row ∷ earlier) ≡ run k now
  plain_state plain =
      ap (λ s. after_owed (judged k) (row ∷ earlier) (outstanding (judged k) (row ∷ earlier)) s)
      (left.state ∙ ap (λ (b : Bool). after_entry (shape_of k).trap (if b then Some (written_by k m).pc else None) (written_by k m)) plain)
      ∙ owed_state

  entry_state : entered_by k m ≡ true → applied_state (tree_of k) (judged (later k now)) (row ∷ earlier) ≡ run (later k now) now
  entry_state e =
      let rows = row ∷ earlier in
      let outs = outstanding (judged k) rows in
      let entries = (machine_after k m).entries in
      let owed = (machine_after k m).owed in
      ap (λ l. after_owed (judged (later k now)) rows l (architecture (tree_of k) (judged (later k now)) rows)) (same_outstanding k now rows)
      ∙ ap (λ s. after_owed (judged (later k now)) rows outs s)
      (same_architecture k now rows (omega arith) ∙ left.state ∙ ap (λ (b : Bool). after_entry (shape_of k).trap (if b then Some (written_by k m).pc else None) (written_by k m)) e)
      ∙ owed_repaid (later k now) rows outs entries owed (diverted (shape_of k).trap (written_by k m)) (same_owing k now rows outs entries owed (omega arith) left.owing)
      ∙ repaid_diverted (shape_of k).trap owed (written_by k m)
      ∙ ap (λ s. diverted (shape_of k).trap s) left.applied
      ∙ sym (run_here k now (not_here e) (has_line e))

  -- in the row of an entry no token stops the run, and a fetch stops it at the handler
  entry_stop : entered_by k m ≡ true → (stop : Stop) → row.stop ≡ Some stop → (judged (later k now)).course.answer now ≡ Stopped stop
  entry_stop e stop h = why (slot_stop (shape_of k) 0 (seen_by k m)) refl (sym made.stop_is ∙ h) where
    why : (o : Option Stop) → slot_stop (shape_of k) 0 (seen_by k m) ≡ o → or_else o (if remains (seen_by k m) || (is_owing (outstanding_by k m).owed || is_some (word_at k.image (fetch_by k m))) then None else Some Fetch) ≡ Some stop → (judged (later k now)).course.answer now ≡ Stopped stop
    why (Some s) q g =
        let x = stopper k 0 (seen_by k m) stop (q ∙ g) in
        let y = L.stopper_stops k ready earlier m row made stop x in
        let low = S.left_from k ready earlier m row made x.index x.token (here_of (seen_by k m) x.older x.token x.index x.rest) in
        let n = entry_struck k ready m made.long e in
        let at = y.1.executing in
        absurd (omega (arith, low, n, at))
    why None q g =
        let f = fetch_case (remains (seen_by k m)) (outstanding_by k m).owed (word_at k.image (fetch_by k m)) stop g in
        let fetched : fetch_by k m ≡ (shape_of k).trap = ap (λ o. Rows.unless (redirect_of o) (fetch_after m.fetch (seen_by k m))) (entry_turn k m e) in
        let there : (run (later k now) now).pc ≡ (shape_of k).trap = ap (λ (s : Arch). s.pc) (run_here k now (not_here e) (has_line e)) ∙ handler_pc (shape_of k).trap (run k now) in
        no_word (tree_of k) k.image (run (later k now) now) (ap (λ n. word_at k.image n) (there ∙ sym fetched) ∙ f.2) ∙ ap (λ z. Stopped z) (sym f.3)

  -- the state that the rows tell, with the places after the row
  pub state_told : architecture (tree_of k) (judged next) (row ∷ earlier) ≡ (machine_after k m).arch
  state_told = by_entry (entered_by k m) refl where
    by_entry : (b : Bool) → entered_by k m ≡ b → architecture (tree_of k) (judged next) (row ∷ earlier) ≡ (machine_after k m).arch
    by_entry false e = subst (λ l. architecture (tree_of k) (judged (at_places k l)) (row ∷ earlier) ≡ (machine_after k m).arch) (sym (same_places e)) left.state
    by_entry true e = subst (λ l. architecture (tree_of k) (judged (at_places k l)) (row ∷ earlier) ≡ (machine_after k m).arch) (sym (more_places e)) (same_architecture k now (row ∷ earlier) (omega arith) ∙ left.state)

  state_then : applied_state (tree_of k) (judged next) (row ∷ earlier) ≡ run next now
  state_then = by_entry (entered_by k m) refl where
    by_entry : (b : Bool) → entered_by k m ≡ b → applied_state (tree_of k) (judged next) (row ∷ earlier) ≡ run next now
    by_entry false e = subst (λ l. applied_state (tree_of k) (judged (at_places k l)) (row ∷ earlier) ≡ run (at_places k l) now) (sym (same_places e)) (plain_state e)
    by_entry true e = subst (λ l. applied_state (tree_of k) (judged (at_places k l)) (row ∷ earlier) ≡ run (at_places k l) now) (sym (more_places e)) (entry_state e)

  stop_then : (stop : Stop) → row.stop ≡ Some stop → (judged next).course.answer now ≡ Stopped stop
  stop_then stop h = by_entry (entered_by k m) refl where
    by_entry : (b : Bool) → entered_by k m ≡ b → (judged next).course.answer now ≡ Stopped stop
    by_entry false e = subst (λ l. (judged (at_places k l)).course.answer now ≡ Stopped stop) (sym (same_places e)) (stop_agrees e stop h)
    by_entry true e = subst (λ l. (judged (at_places k l)).course.answer now ≡ Stopped stop) (sym (more_places e)) (entry_stop e stop h)

  pub agrees : AgreesWithRun (tree_of k) (judged k) (judged next) earlier row
  agrees = record {
    placed = λ s c e. (retired_at s c e).0;
    recorded = λ s c e. (retired_at s c e).1;
    written = spawn_written;
    state = state_then;
    stop = stop_then;
    settled = stop_settled k ready earlier m row made.inv made.is;
  }
