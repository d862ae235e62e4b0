-- One more place at which the run goes to the handler changes nothing before it, nor what is told of the rows before.
use Rattle.rv_engine.specs.Rows.{IsRowOf}
use Rattle.rv_tried.specs.Parts.{spawned}
use Rattle.rv_trace.specs.RowParts.{serial_after, front}
use Rattle.ix_plan.specs.Units.{Slots, next_units}
use Rattle.std.proofs.Common.{◌≡◌, ℕ, zero, suc, ◌+◌, ◌<◌, ◌≤◌, List, [], ◌∷◌, ◌++◌, Option, Some, None, Bool, true, false, refl, sym, ap, ◌∙◌, subst, arith, inl, inr}
use Rattle.std.specs.Prelude.{◌||◌, if◌then◌else◌, is_some, nat_eq}
use Rattle.std.specs.List.{list_any}
use Rattle.std.proofs.lemmas.Bool.Decides.{nat_tests}
use Rattle.ix_bits.specs.declared.number.Bits.{Bits}
use Rattle.ix_extension.specs.Extensions.{ExtensionTree}
use Rattle.rv_seq.specs.declared.arch.Arch.{Arch}
use Rattle.rv_seq.specs.declared.commit.Commit.{Commit}
use Rattle.rv_seq.specs.declared.answer.StepAnswer.{StepAnswer}
use Rattle.rv_seq.specs.Interrupts.{diverted}
use Rattle.rv_seq.specs.Steps.{word_at, step, after}
use Rattle.rv_seq.specs.Runs.{start, entered, run_with}
use Rattle.rv_trace.specs.declared.row.Cell.{Cell}
use Rattle.rv_trace.specs.declared.row.Row.{Row}
use Rattle.rv_trace.specs.Trace.{place, retirements}
use Rattle.rv_unit.specs.declared.entry.Entry.{Entry}
use Rattle.rv_engine.specs.declared.owing.Owed.{Owed}
use Rattle.rv_engine.specs.Settings.{Setting, shape_of, tree_of, Machine}
use Rattle.rv_lawful.specs.Settings as Lawful
use Rattle.rv_lawful.specs.Settings.{entries_at, accesses_before, word_accesses, state_trial, run_trial}
use Rattle.rv_lawful.specs.LawfulTrace.{IsWordOf, next_serial}
use Rattle.rv_lawful.specs.Outstanding.{Decoupled, decoupled, decoupled_in, without, is_written, outstanding, units_after, after_entry, after_written, after_retired, architecture, entering}
use Rattle.rv_lawful.specs.Future.{future_file, leaves_execute, after_executed, after_late, after_unit, early_after, late_after}
use Rattle.rv_machine.specs.Owing.{judged, IsOwing, Owing}
use Rattle.rv_machine.specs.Placed.{run, entries_of, at_places, is_entry, AreExecuted}

-- a machine makes its rows without the places
pub row_at : (k : Setting) (ps : List ℕ) (m : Machine) (row : Row) → IsRowOf k m row → IsRowOf (at_places k ps) m row
row_at k ps m row h = record {
  cells = h.cells;
  behind = h.behind;
  retired = h.retired;
  written = h.written;
  flushed = h.flushed;
  redirect = h.redirect;
  taken = h.taken;
  stop = h.stop;
}

-- what is outstanding is told without the run
pub same_decoupled_at : (k : Setting) (ps : List ℕ) (rows : List Row) → decoupled (judged (at_places k ps)) rows ≡ decoupled (judged k) rows
unfolding decoupled
same_decoupled_at k ps [] = refl
same_decoupled_at k ps (row ∷ earlier) = ap (λ l. decoupled_in (judged k) row.retired ++ l) (same_decoupled_at k ps earlier)

module _ (k : Setting) (q : ℕ) where
  -- the setting with this place too
  abbrev pub later : Setting
  later = at_places k (q ∷ k.places)

  other : (p : ℕ) → p < q → nat_eq q p ≡ false
  other p lt = grind (arith, nat_tests)

  itself : nat_eq q q ≡ true
  itself = grind (arith, nat_tests)

  start_same : start (tree_of k) (entries_of later) ≡ start (tree_of k) (entries_of k)
  start_same = by_lines k.lines where
    by_lines : (lines : Option (List ℕ)) → start (tree_of k) (entries_at (shape_of k).trap lines (q ∷ k.places)) ≡ start (tree_of k) (entries_at (shape_of k).trap lines k.places)
    by_lines None = refl
    by_lines (Some l) = refl

  entered_same : (p : ℕ) (s : Arch) → p < q → entered (entries_of later) p s ≡ entered (entries_of k) p s
  entered_same p s lt = by_lines k.lines where
    by_lines : (lines : Option (List ℕ)) → entered (entries_at (shape_of k).trap lines (q ∷ k.places)) p s ≡ entered (entries_at (shape_of k).trap lines k.places) p s
    by_lines None = refl
    by_lines (Some l) = ap (λ b. if b || is_entry k p then diverted (shape_of k).trap s else s) (other p lt)

  -- before it the run is the same
  pub run_before : (p : ℕ) → p < q → run later p ≡ run k p
  unfolding run_with
  run_before zero lt = entered_same zero (start (tree_of k) (entries_of later)) lt ∙ ap (λ s. entered (entries_of k) zero s) start_same
  run_before (suc p) lt =
      entered_same (suc p) (after (tree_of k) (run later p) (step (tree_of k) k.image (run later p))) lt
      ∙ ap (λ s. entered (entries_of k) (suc p) (after (tree_of k) s (step (tree_of k) k.image s))) (run_before p (omega (arith, lt)))

  -- and there it goes to the handler
  divert_here : (s : Arch) (p : ℕ) → p ≡ q → is_entry k q ≡ false → is_some k.lines ≡ true → entered (entries_of later) p s ≡ diverted (shape_of k).trap (entered (entries_of k) p s)
  divert_here s p e plain some = by_lines k.lines some where
    here : nat_eq q p ≡ true
    here = ap (λ i. nat_eq q i) e ∙ itself

    not_yet : is_entry k p ≡ false
    not_yet = ap (λ i. is_entry k i) e ∙ plain

    by_lines : (lines : Option (List ℕ)) → is_some lines ≡ true → entered (entries_at (shape_of k).trap lines (q ∷ k.places)) p s ≡ diverted (shape_of k).trap (entered (entries_at (shape_of k).trap lines k.places) p s)
    by_lines None h = cc
    by_lines (Some l) h =
        ap (λ b. if b || is_entry k p then diverted (shape_of k).trap s else s) here
        ∙ ap (λ b. diverted (shape_of k).trap (if b then diverted (shape_of k).trap s else s)) (sym not_yet)

  pub run_here : is_entry k q ≡ false → is_some k.lines ≡ true → run later q ≡ diverted (shape_of k).trap (run k q)
  unfolding run_with
  run_here plain some = at_place q refl where
    at_place : (p : ℕ) → p ≡ q → run later p ≡ diverted (shape_of k).trap (run k p)
    at_place zero e =
        divert_here (start (tree_of k) (entries_of later)) zero e plain some ∙ ap (λ s. diverted (shape_of k).trap (entered (entries_of k) zero s)) start_same
    at_place (suc p) e =
        divert_here (after (tree_of k) (run later p) (step (tree_of k) k.image (run later p))) (suc p) e plain some
        ∙ ap (λ s. diverted (shape_of k).trap (entered (entries_of k) (suc p) (after (tree_of k) s (step (tree_of k) k.image s)))) (run_before p (omega (arith, e)))

  -- so is all that is read of the run there
  pub answer_before : (p : ℕ) → p < q → (judged later).course.answer p ≡ (judged k).course.answer p
  answer_before p lt = ap (λ s. step (tree_of k) k.image s) (run_before p lt)

  pub accesses_at : (p : ℕ) → p < q → (judged later).course.accesses p ≡ (judged k).course.accesses p
  accesses_at p lt = ap (λ (s : Arch). word_accesses (tree_of k) s (word_at k.image s.pc)) (run_before p lt)

  pub blocks_before : (p : ℕ) → p < q → (judged later).course.blocks p ≡ (judged k).course.blocks p
  blocks_before p lt = ap (λ (s : Arch). (state_trial (tree_of k) s (word_at k.image s.pc)).blocks) (run_before p lt)

  pub own_before : (p : ℕ) → p < q → (judged later).course.own p ≡ (judged k).course.own p
  own_before p lt = ap (λ (s : Arch). (state_trial (tree_of k) s (word_at k.image s.pc)).own) (run_before p lt)

  pub counted_before : (p : ℕ) → p ≤ q → accesses_before (judged later).course p ≡ accesses_before (judged k).course p
  unfolding accesses_before
  counted_before zero le = refl
  counted_before (suc p) le =
      ap (λ (b : Bool). if b then suc (accesses_before (judged later).course p) else accesses_before (judged later).course p) (accesses_at p (omega (arith, le)))
      ∙ ap (λ n. if (judged k).course.accesses p then suc n else n) (counted_before p (omega (arith, le)))

  -- What is told of rows before

  fewer : (row : Row) (earlier : List Row) → retirements earlier ≤ retirements (row ∷ earlier)
  unfolding retirements
  fewer row earlier = by_case (is_some row.retired) where
    by_case : (b : Bool) → retirements earlier ≤ (if b then suc (retirements earlier) else retirements earlier)
    by_case true = omega arith
    by_case false = omega arith

  one_more : (row : Row) (earlier : List Row) (o : ℕ × Commit) → row.retired ≡ Some o → retirements (row ∷ earlier) ≡ suc (retirements earlier)
  unfolding retirements
  one_more row earlier o e = ap (λ (r : Option (ℕ × Commit)). if is_some r then suc (retirements earlier) else retirements earlier) e

  pub same_architecture : (rows : List Row) → retirements rows ≤ q → architecture (tree_of k) (judged later) rows ≡ architecture (tree_of k) (judged k) rows
  unfolding architecture
  same_architecture [] le = start_same
  same_architecture (row ∷ earlier) le =
      let f = fewer row earlier in
      ap (λ s. after_entry (shape_of k).trap row.taken (after_written row.written s))
      (retired_same row.retired refl (architecture (tree_of k) (judged later) earlier)
      ∙ ap (λ s. after_retired (tree_of k) (judged k) (retirements earlier) row.retired s) (same_architecture earlier (omega (arith, le, f)))) where
        retired_same : (o : Option (ℕ × Commit)) → row.retired ≡ o → (s : Arch) → after_retired (tree_of k) (judged later) (retirements earlier) o s ≡ after_retired (tree_of k) (judged k) (retirements earlier) o s
        retired_same None e s = refl
        retired_same (Some c) e s =
            let m = one_more row earlier c e in
            ap (λ b. after_retired (tree_of k) (record { image = (judged k).image; waits = (judged k).waits; lines = (judged k).lines; entries = (judged k).entries; shape = (judged k).shape; course = record { answer = (judged k).course.answer; pc = (judged k).course.pc; enabled = (judged k).course.enabled; accesses = (judged k).course.accesses; blocks = λ p. b; own = (judged k).course.own }; asks = (judged k).asks; units = (judged k).units; initial = (judged k).initial; jump = (judged k).jump }) (retirements earlier) (Some c) s) (blocks_before (retirements earlier) (omega (arith, le, m)))

  pub same_decoupled : (rows : List Row) → decoupled (judged later) rows ≡ decoupled (judged k) rows
  unfolding decoupled
  same_decoupled [] = refl
  same_decoupled (row ∷ earlier) = ap (λ l. decoupled_in (judged k) row.retired ++ l) (same_decoupled earlier)

  pub same_outstanding : (rows : List Row) → outstanding (judged later) rows ≡ outstanding (judged k) rows
  same_outstanding rows = ap (λ l. without (is_written rows) l) (same_decoupled rows)

  pub same_units : (rows : List Row) → units_after (judged later) rows ≡ units_after (judged k) rows
  unfolding units_after
  same_units [] = refl
  same_units (row ∷ earlier) = ap (λ u. next_units_of row u) (same_units earlier) where
    next_units_of : Row → List Slots → List Slots
    next_units_of row u = next_units (entering (judged k) row.retired) u

  pub same_serial : (rows : List Row) → next_serial (judged later) rows ≡ next_serial (judged k) rows
  unfolding next_serial
  same_serial [] = refl
  same_serial (row ∷ earlier) = ap (λ n. serial_after n (front (Lawful.stages_of (judged k) row))) (same_serial earlier)

  pub word_back : (rows : List Row) (s word : ℕ) → IsWordOf (judged later) rows s word → IsWordOf (judged k) rows s word
  word_back [] s word h = absurd h
  word_back (row ∷ earlier) s word (inl h) = inl h
  word_back (row ∷ earlier) s word (inr h) = inr (word_back earlier s word h)

  pub word_on : (rows : List Row) (s word : ℕ) → IsWordOf (judged k) rows s word → IsWordOf (judged later) rows s word
  word_on [] s word h = absurd h
  word_on (row ∷ earlier) s word (inl h) = inl h
  word_on (row ∷ earlier) s word (inr h) = inr (word_on earlier s word h)

  pub same_executed : (rows : List Row) (bound more : ℕ) → bound ≤ more → AreExecuted k rows bound → AreExecuted later rows more
  same_executed [] bound more le h = tt
  same_executed (row ∷ earlier) bound more le h = (λ c e. let lt = h.0 c e in omega (arith, lt, le), same_executed earlier bound more le h.1)

  pub same_file : (rows : List Row) → retirements rows ≤ q → AreExecuted k rows q → future_file (judged later) rows ≡ future_file (judged k) rows
  unfolding future_file
  same_file [] le h = refl
  same_file (row ∷ earlier) le h =
      let f = fewer row earlier in
      executed_same (leaves_execute (judged k) row) h.0 (after_late (judged later) (retirements earlier) row.retired (after_unit row.written (future_file (judged later) earlier)))
      ∙ ap (λ file. after_executed (judged k) (row ∷ earlier) (leaves_execute (judged k) row) file)
      (late_same row.retired refl (after_unit row.written (future_file (judged later) earlier))
      ∙ ap (λ file. after_late (judged k) (retirements earlier) row.retired (after_unit row.written file)) (same_file earlier (omega (arith, le, f)) h.1)) where
        executed_same : (o : Option Cell) → ((c : Cell) → o ≡ Some c → place (row ∷ earlier) c.serial < q) → (file : List Bits) → after_executed (judged later) (row ∷ earlier) o file ≡ after_executed (judged k) (row ∷ earlier) o file
        executed_same None lt file = refl
        executed_same (Some c) lt file =
            let p = place (row ∷ earlier) c.serial in
            ap (λ b. early_after ((judged k).asks c.word) b ((judged later).course.answer p) file) (blocks_before p (lt c refl))
            ∙ ap (λ a. early_after ((judged k).asks c.word) ((judged k).course.blocks p) a file) (answer_before p (lt c refl))

        late_same : (o : Option (ℕ × Commit)) → row.retired ≡ o → (file : List Bits) → after_late (judged later) (retirements earlier) o file ≡ after_late (judged k) (retirements earlier) o file
        late_same None e file = refl
        late_same (Some c) e file =
            let m = one_more row earlier c e in
            let p = retirements earlier in
            let lt : p < q = omega (arith, le, m) in
            ap (λ o. late_after ((judged k).asks c.1.word) o ((judged later).course.answer p) file) (own_before p lt)
            ∙ ap (λ a. late_after ((judged k).asks c.1.word) ((judged k).course.own p) a file) (answer_before p lt)

  pub same_owing_one : (rows : List Row) (o : Decoupled) (e : Entry) (w : Owed) → retirements rows ≤ q → IsOwing k rows o e w → IsOwing later rows o e w
  same_owing_one rows o e w le h =
      let past = h.past in
      let lt : place rows o.0 < q = omega (arith, past, le) in
      record {
        entry = h.entry;
        owed = h.owed;
        asks = h.asks;
        unit = h.unit;
        past = h.past;
        alive = h.alive;
        retired = h.retired;
        unwritten = h.unwritten;
        known = word_on rows o.0 o.1 h.known;
        only = λ word x. h.only word (word_back rows o.0 word x);
        commit = h.commit;
        step = answer_before (place rows o.0) lt ∙ h.step;
        word = h.word;
        writes = h.writes ∙ ap (λ own. spawned w.asks own h.commit) (sym (own_before (place rows o.0) lt));
      }

  pub same_owing : (rows : List Row) (outs : List Decoupled) (entries : List Entry) (owed : List Owed) → retirements rows ≤ q → Owing k rows outs entries owed → Owing later rows outs entries owed
  same_owing rows [] [] [] le h = tt
  same_owing rows (o ∷ outs) (e ∷ entries) (w ∷ owed) le h = (same_owing_one rows o e w le h.0, h.1, same_owing rows outs entries owed le h.2)
  same_owing rows [] [] (w ∷ owed) le h = absurd h
  same_owing rows [] (e ∷ entries) owed le h = absurd h
  same_owing rows (o ∷ outs) [] owed le h = absurd h
  same_owing rows (o ∷ outs) (e ∷ entries) [] le h = absurd h
