-- The step of a cell that leaves EX in a lawful row is that of its word.
use Rattle.std.proofs.Common.{◌≡◌, ◌∙◌, refl, sym, ap, subst, ℕ, zero, suc, ◌<◌, ◌≤◌, List, [], ◌∷◌, Option, Some, None, Bool, true, false, arith, inl, inr, ◌⊎◌}
use Rattle.std.specs.Prelude.{slice_get, if◌then◌else◌, ◌||◌, ◌&&◌, is_some}
use Rattle.std.proofs.lemmas.Bool.{cases_lt}
use Rattle.std.proofs.lemmas.Option.{same_Some}
use Rattle.ix_extension.specs.Extensions.{ExtensionTree}
use Rattle.rv_asks.specs.declared.asks.Asks.{Asks}
use Rattle.rv_seq.specs.declared.commit.Commit.{Commit}
use Rattle.rv_seq.specs.declared.commit.Stop.{Stop}
use Rattle.rv_seq.specs.declared.answer.StepAnswer.TheVariants.{Done}
use Rattle.rv_seq.specs.Sound.{IsSound}
use Rattle.rv_seq.specs.Steps.{word_at}
use Rattle.rv_past.specs.declared.step.Step.{Step}
use Rattle.rv_past.specs.Steps.{step_at}
use Rattle.rv_tried.specs.Whole.{AreBlocksWide}
use Rattle.rv_trace.specs.declared.row.Cell.{Cell}
use Rattle.rv_trace.specs.declared.row.Row.{Row}
use Rattle.rv_trace.specs.declared.row.Hold.{Hold}
use Rattle.rv_trace.specs.declared.row.Hold.TheVariants.{Late}
use Rattle.rv_trace.specs.Trace.{has_serial, is_flushed, place, retirements, newest}
use Rattle.rv_trace.specs.RowParts.{name_of, leaves}
use Rattle.rv_lawful.specs.Settings.{Setting, stages_of, Stands}
use Rattle.rv_lawful.specs.Entering.{is_line_pending, is_interrupted}
use Rattle.rv_lawful.specs.Future.{cell_in, going_on, leaves_execute}
use Rattle.rv_lawful.specs.LawfulTrace.{LawfulRow, OwnHold, StopsRun, IsFlushedByMismatch, IsFlushedByEntry}
use Rattle.rv_rows.specs.Facts.{IsPlain, AreGoingOn, AboveFacts, FirstFacts, RowFacts}
use Rattle.rv_rows.specs.Recorded.{HasWords}
use Rattle.rv_past.specs.declared.due.Due.{Due}
use Rattle.rv_past.specs.Past.{IsExecutedStep}
use Rattle.rv_watch.proofs.Tests.{differ, not_true, false_or}
use Rattle.rv_watch.proofs.Cells.{lawful_above}

-- no interrupt is taken
pub untaken : (k : Setting) (earlier : List Row) (row : Row) → IsPlain k → LawfulRow k earlier row → row.taken ≡ None
untaken k earlier row plain lawful = by_case row.taken refl where
  none : is_interrupted k earlier ≡ false
  none = ap (λ l. is_line_pending l earlier && k.course.enabled (retirements earlier)) plain.no_line

  by_case : (o : Option ℕ) → row.taken ≡ o → row.taken ≡ None
  by_case None e = e
  by_case (Some at) e = absurd (differ (sym (lawful.takes.taken at e).interrupted ∙ none))

flushed_step : (row : Row) (rows : List Row) (s : ℕ) → is_flushed (row ∷ rows) s ≡ (has_serial row.flushed s || is_flushed rows s)
unfolding is_flushed
flushed_step row rows s = refl

unflushed_more : (row : Row) (rows : List Row) (s : ℕ) → has_serial row.flushed s ≡ false → is_flushed rows s ≡ false → is_flushed (row ∷ rows) s ≡ false
unflushed_more row rows s x y = flushed_step row rows s ∙ false_or (has_serial row.flushed s) (is_flushed rows s) x y

flushed_same : (row : Row) (rows : List Row) (s : ℕ) → has_serial row.flushed s ≡ false → is_flushed (row ∷ rows) s ≡ is_flushed rows s
flushed_same row rows s h = flushed_step row rows s ∙ ap (λ b. b || is_flushed rows s) h

-- a row that flushes no lower serial leaves the place as it was
place_same : (row : Row) (rows : List Row) (s : ℕ) → ((j : ℕ) → j < s → has_serial row.flushed j ≡ false) → place (row ∷ rows) s ≡ place rows s
unfolding place
place_same row rows zero h = refl
place_same row rows (suc s) h = rw (flushed_same row rows s (h s (omega arith)), place_same row rows s (λ j lt. h j (omega (arith, lt))))

-- ---- what goes on

record GoesOn (k : Setting) (row : Row) (c : Cell) : Type 0 where
  stands : Stands k row k.shape.ex c
  free : c.hold ≡ None
  kept : has_serial row.flushed c.serial ≡ false

none_of : (o : Option Hold) → is_some o ≡ false → o ≡ None
none_of None e = refl
none_of (Some h) e = cc

goes_on : (k : Setting) (row : Row) (c : Cell) → leaves_execute k row ≡ Some c → GoesOn k row c
goes_on k row c e = by_cell (slice_get (stages_of k row) k.shape.ex) refl e where
  by_test : (d : Cell) → slice_get (stages_of k row) k.shape.ex ≡ Some (Some d) → (h f : Bool) → is_some d.hold ≡ h → has_serial row.flushed d.serial ≡ f
      → (if is_some (if h || f then None else name_of (Some d)) then Some d else None) ≡ Some c → GoesOn k row c
  by_test d q true f x y z = cc
  by_test d q false true x y z = cc
  by_test d q false false x y z = subst (λ n. GoesOn k row n) (same_Some d c z) (record { stands = q; free = none_of d.hold x; kept = y })

  by_cell : (o : Option (Option Cell)) → slice_get (stages_of k row) k.shape.ex ≡ o → going_on row (cell_in o) ≡ Some c → GoesOn k row c
  by_cell None q f = cc
  by_cell (Some None) q f = cc
  by_cell (Some (Some d)) q f = by_test d q (is_some d.hold) (has_serial row.flushed d.serial) refl refl f

module _ (facts : RowFacts) (k : Setting) (earlier : List Row) (row : Row) (plain : IsPlain k) (words : HasWords k) (going : AreGoingOn k earlier) (lawful : LawfulRow k earlier row) where
  above : AboveFacts k earlier row
  above = facts.above k earlier row plain going (lawful_above k earlier row lawful)

  first : FirstFacts k earlier row
  first = facts.first k earlier row plain going lawful.moves

  ordered : (stage later : ℕ) (c d : Cell) → stage < later → Stands k row stage c → Stands k row later d → d.serial < c.serial
  ordered zero later c d lt e f = first.ordered later c d lt e f
  ordered (suc n) later c d lt e f = above.ordered (suc n) later c d (omega arith) lt e f

  some_ex : 0 < k.shape.ex
  some_ex = let a = plain.rd_pos in let b = plain.rd_ex in omega (arith, a, b)

  module _ (c : Cell) (on : GoesOn k row c) where
    -- what is flushed stands below
    record IsBelow (j : ℕ) : Type 0 where
      stage : ℕ
      cell : Cell
      below : stage < k.shape.ex
      stands : Stands k row stage cell
      serial : cell.serial ≡ j

    flushed_below : (j : ℕ) → has_serial row.flushed j ≡ true → IsBelow j
    flushed_below j f = by_cause (lawful.successors.flushed_only j f) where
      by_cause : IsFlushedByMismatch k earlier row j ⊎ IsFlushedByEntry k row j → IsBelow j
      by_cause (inr y) = absurd (differ (sym y.0 ∙ ap (λ (o : Option ℕ). is_some o) (untaken k earlier row plain lawful)))
      by_cause (inl x) = elim (cases_lt k.shape.ex x.0) [
        | inl higher ↦ absurd (differ (sym (lawful.successors.flushes x.0 x.1 x.4 k.shape.ex c higher on.stands) ∙ on.kept))
        | inr le ↦ let low = x.5 in record { stage = x.2; cell = x.3; below = omega (arith, le, low); stands = x.6; serial = x.7 }
      ]

    none_above : (later : ℕ) (d : Cell) → k.shape.ex < later → Stands k row later d → has_serial row.flushed d.serial ≡ false
    none_above later d lt e = not_true (has_serial row.flushed d.serial) flushed where
      flushed : has_serial row.flushed d.serial ≡ true → ⊥
      flushed f =
          let x = flushed_below d.serial f in
          let low = x.below in
          let o = ordered x.stage later x.cell d (omega (arith, low, lt)) x.stands e in
          let same = x.serial in
          omega (arith, o, same)

    none_lower : (j : ℕ) → j < c.serial → has_serial row.flushed j ≡ false
    none_lower j lt = not_true (has_serial row.flushed j) flushed where
      flushed : has_serial row.flushed j ≡ true → ⊥
      flushed f =
          let x = flushed_below j f in
          let o = ordered x.stage k.shape.ex x.cell c x.below x.stands on.stands in
          let same = x.serial in
          omega (arith, o, same, lt)

    no_own : (h : Hold) → OwnHold k earlier row k.shape.ex c h → ⊥
    no_own h own = (lawful.holds k.shape.ex c on.stands).free on.free on.kept (λ stop s. s.free h own) h (inl own)

    none_late : (later : ℕ) (d : Cell) → k.shape.ex < later → Stands k row later d → (k.asks d.word).late ≡ false
    none_late later d lt e = not_true (k.asks d.word).late late where
      late : (k.asks d.word).late ≡ true → ⊥
      late q =
          let p = above.in_place later d (omega (arith, lt)) e in
          no_own (Late d.serial) (record {
            executing = refl;
            older = record { lower = ordered k.shape.ex later c d lt on.stands e; unflushed = unflushed_more row earlier d.serial (none_above later d lt e) p.unflushed };
            unretired = p.unretired;
            jumps = (d.word, inl (later, d, e, refl, refl), q);
          })

    at_run : c.at ≡ k.course.pc (place (row ∷ earlier) c.serial)
    at_run = above.address k.shape.ex c (omega arith) on.stands none_late ∙ ap k.course.pc (sym (place_same row earlier c.serial none_lower))

    word_is : (d : Commit) → k.course.answer (place (row ∷ earlier) c.serial) ≡ Done d → d.word ≡ c.word
    word_is d e =
        same_Some d.word c.word
        (sym (words (place (row ∷ earlier) c.serial) d e) ∙ ap (word_at k.image) (sym at_run) ∙ (above.in_place k.shape.ex c some_ex on.stands).word)

  -- with what is asked of its word this is the step of the cell
  pub executed_is : (x : ExtensionTree) (due : Due) → ((p : ℕ) → IsSound x (k.course.answer p)) → ((p : ℕ) → AreBlocksWide x (k.course.blocks p))
      → ((c : Cell) → Stands k row k.shape.ex c → due.asks ≡ k.asks c.word) → ((c : Cell) → Stands k row k.shape.ex c → due.step ≡ step_at k.course (place (row ∷ earlier) c.serial))
      → IsExecutedStep x k earlier row due
  executed_is x due sound wide asks step c e =
      let on = goes_on k row c e in
      let s = step c on.stands in
      let a = asks c on.stands in
      record {
        step = record { step = s; asks = λ d f. a ∙ ap k.asks (sym (word_is c on d (sym (ap (λ (o : Step). o.answer) s) ∙ f))) };
        asks = a;
        sound = subst (λ (o : Step). IsSound x o.answer) (sym s) (sound (place (row ∷ earlier) c.serial));
        wide = subst (λ (o : Step). AreBlocksWide x o.blocks) (sym s) (wide (place (row ∷ earlier) c.serial));
      }
