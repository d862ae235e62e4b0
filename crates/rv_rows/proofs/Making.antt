-- A lawful row that retires and writes what the run does is the one that is made of what it shows.
use Rattle.std.proofs.Common.{◌≡◌, ◌∙◌, refl, sym, ap, ℕ, zero, suc, ◌-◌, List, [], ◌∷◌, ◌++◌, map, take, Option, Some, None, Bool, true, false, arith}
use Rattle.std.specs.Prelude.{slice_get, replicate, if◌then◌else◌}
use Rattle.std.proofs.lemmas.List.{take-append-drop}
use Rattle.rv_seq.specs.declared.commit.Commit.{Commit}
use Rattle.rv_trace.specs.declared.row.Cell.{Cell}
use Rattle.rv_trace.specs.declared.row.Row.{Row}
use Rattle.rv_trace.specs.Trace.{has_serial, place, retirements}
use Rattle.rv_trace.specs.TraceText.{retired_serial, written_serial}
use Rattle.rv_trace.specs.RowParts.{given, in_five}
use Rattle.rv_seq.specs.Steps.{word_at}
use Rattle.rv_lawful.specs.Settings.{Setting, stages_of}
use Rattle.rv_lawful.specs.Outstanding.{Written, is_serial, serial_written, units_after}
use Rattle.rv_lawful.specs.LawfulTrace.{LawfulRow, serial_in}
use Rattle.rv_rows.proofs.Own.{is_own}
use Rattle.ix_plan.specs.Units.{unit_written}
use Rattle.rv_lawful.specs.Headline.{IsRecord, IsSpawnWrite}
use Rattle.rv_rows.specs.Facts.{AboveFacts, FirstFacts}
use Rattle.rv_shown.specs.Shown.{shown_hold, shown_cell, shown_of}
use Rattle.rv_rows.specs.Made.{word_or_zero, cell_made, record_of, retired_made, writes, written_of, written_made, no_writes, row_of}

-- a cell with the image's word, which shows no hold where it is flushed
abbrev IsMade : Setting → List (Option ℕ) → Option Cell → Type 0
IsMade k flushed None = Unit {0}
IsMade k flushed (Some c) = (word_at k.image c.at ≡ Some c.word) × (has_serial flushed c.serial ≡ true → c.hold ≡ None)

cell_same : (k : Setting) (flushed : List (Option ℕ)) (o : Option Cell) → IsMade k flushed o → o ≡ cell_made k (shown_cell flushed o)
cell_same k flushed None m = refl
cell_same k flushed (Some c) m =
    ap (λ w. let d : Cell = record { serial = c.serial; at = c.at; word = w; hold = c.hold } in Some d) (sym (ap (λ o. word_or_zero o) m.0))
    ∙ ap (λ h. let d : Cell = record { serial = c.serial; at = c.at; word = word_or_zero (word_at k.image c.at); hold = h } in Some d) (hold_same (has_serial flushed c.serial) m.1) where
      hold_same : (b : Bool) → (b ≡ true → c.hold ≡ None) → c.hold ≡ shown_hold b c.hold
      hold_same true h = h refl
      hold_same false h = refl

cells_same : (k : Setting) (flushed : List (Option ℕ)) (cells : List (Option Cell)) → ((i : ℕ) (o : Option Cell) → slice_get cells i ≡ Some o → IsMade k flushed o) → cells ≡ map (cell_made k) (map (shown_cell flushed) cells)
cells_same k flushed [] h = refl
cells_same k flushed (o ∷ cells) h =
    ap (λ x. x ∷ cells) (cell_same k flushed o (h 0 o refl)) ∙ ap (λ l. cell_made k (shown_cell flushed o) ∷ l) (cells_same k flushed cells (λ i p e. h (suc i) p e))

module _ (k : Setting) (earlier : List Row) (row : Row) (lawful : LawfulRow k earlier row) (none : row.taken ≡ None) (above : AboveFacts k earlier row) (first : FirstFacts k earlier row)
    (recorded : (s : ℕ) (c : Commit) → row.retired ≡ Some (s, c) → IsRecord k (retirements earlier) c) (spawns : (w : Written) → row.written ≡ Some w → IsSpawnWrite k earlier w) where
  made_at : (i : ℕ) (o : Option Cell) → slice_get (stages_of k row) i ≡ Some o → IsMade k row.flushed o
  made_at i None e = tt
  made_at zero (Some c) e = ((first.in_place c e).word, (lawful.holds 0 c e).flushed)
  made_at (suc i) (Some c) e = ((above.in_place (suc i) c (omega arith) e).word, (lawful.holds (suc i) c e).flushed)

  cells_made : row.cells ≡ map (cell_made k) (map (shown_cell row.flushed) (take k.shape.stages row.cells)) ++ replicate (5 - k.shape.stages) None
  cells_made =
      sym (take-append-drop k.shape.stages row.cells)
      ∙ ap (λ l. take k.shape.stages row.cells ++ l) lawful.form.behind
      ∙ ap (λ l. l ++ replicate (5 - k.shape.stages) None) (cells_same k row.flushed (take k.shape.stages row.cells) made_at)

  retired_same : (o : Option (ℕ × Commit)) → row.retired ≡ o → o ≡ retired_made k earlier (retired_serial o)
  retired_same None q = refl
  retired_same (Some (s, c)) q =
      let r = recorded s c q in
      ap (λ d. Some (s, d)) (r.2 ∙ ap (λ a. record_of k a) (sym r.1))

  written_same : (o : Option Written) → row.written ≡ o → o ≡ written_made k earlier (written_serial o)
  written_same None q = refl
  written_same (Some w) q =
      let r = spawns w q in
      let due : serial_in (unit_written (units_after k earlier)) ≡ Some w.0 = sym lawful.units ∙ ap (λ o. serial_written o) q in
      ap (λ v. Some (writes w.0 v)) r.values
      ∙ ap (λ a. Some (written_of k (k.course.own (place earlier w.0)) w.0 a)) (sym r.step)
      ∙ ap (λ b. Some (if b then written_of k (k.course.own (place earlier w.0)) w.0 (k.course.answer (place earlier w.0)) else no_writes w.0)) (sym (is_own w.0))
      ∙ ap (λ s. Some (if is_serial s w.0 then written_of k (k.course.own (place earlier w.0)) w.0 (k.course.answer (place earlier w.0)) else no_writes w.0)) (sym due)

  -- a row by its parts
  abbrev parts : List (Option Cell) → Option (ℕ × Commit) → Option Written → List (Option ℕ) → Option ℕ → Row
  parts cells retired written flushed taken =
      record { cells = cells; retired = retired; written = written; flushed = flushed; redirect = row.redirect; taken = taken; stop = row.stop }

  abbrev cells' : List (Option Cell)
  cells' = map (cell_made k) (map (shown_cell row.flushed) (take k.shape.stages row.cells)) ++ replicate (5 - k.shape.stages) None

  pub made : row ≡ row_of k earlier (shown_of k.shape.stages row)
  made =
      ap (λ l. parts l row.retired row.written row.flushed row.taken) cells_made
      ∙ ap (λ o. parts cells' o row.written row.flushed row.taken) (retired_same row.retired refl)
      ∙ ap (λ o. parts cells' (retired_made k earlier (retired_serial row.retired)) o row.flushed row.taken) (written_same row.written refl)
      ∙ ap (λ l. parts cells' (retired_made k earlier (retired_serial row.retired)) (written_made k earlier (written_serial row.written)) l row.taken) lawful.form.listed
      ∙ ap (λ o. parts cells' (retired_made k earlier (retired_serial row.retired)) (written_made k earlier (written_serial row.written)) (in_five (given row.flushed)) o) none
