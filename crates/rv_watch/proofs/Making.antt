-- The row that is made of what is shown shows it, and is in form.
use Rattle.std.proofs.Common.{◌≡◌, ◌∙◌, refl, sym, ap, subst, ℕ, zero, suc, ◌-◌, ◌<◌, List, [], ◌∷◌, ◌++◌, map, take, drop, length, Option, Some, None, Bool, true, false, arith}
use Rattle.std.specs.Prelude.{slice_get, replicate, if◌then◌else◌}
use Rattle.std.proofs.lemmas.List.{length-map}
use Rattle.ix_plan.specs.Units.{unit_written}
use Rattle.rv_seq.specs.declared.answer.StepAnswer.{StepAnswer}
use Rattle.rv_seq.specs.declared.answer.StepAnswer.TheVariants.{Done, Stopped}
use Rattle.rv_seq.specs.Steps.{word_at}
use Rattle.rv_trace.specs.declared.row.Cell.{Cell}
use Rattle.rv_trace.specs.declared.row.Row.{Row}
use Rattle.rv_trace.specs.Trace.{has_serial, place}
use Rattle.rv_trace.specs.TraceText.{retired_serial, written_serial, retired_text, written_text}
use Rattle.rv_trace.specs.RowParts.{given, in_five, AscendFrom}
use Rattle.rv_lawful.specs.Settings.{Setting, Stands}
use Rattle.rv_lawful.specs.Outstanding.{is_serial, units_after}
use Rattle.rv_lawful.specs.LawfulTrace.{serial_in, IsInForm}
use Rattle.rv_shown.specs.declared.shown.ShownCell.{ShownCell}
use Rattle.rv_shown.specs.Shown.{Shown, shown_hold, shown_cell, shown_of}
use Rattle.rv_reader.specs.Forms.{Ascend}
use Rattle.rv_rows.specs.Kinds.{MovesRightly, RetiresRightly, WritesRightly}
use Rattle.rv_rows.specs.Made.{word_or_zero, cell_made, retired_made, written_of, no_writes, written_made, row_of}

-- Lists

taken_whole : {A : Type 0} (n : ℕ) (l rest : List A) → length l ≡ n → take n (l ++ rest) ≡ l
taken_whole zero [] rest e = refl
taken_whole zero (x ∷ l) rest e = absurd (omega (arith, e))
taken_whole (suc n) [] rest e = absurd (omega (arith, e))
taken_whole (suc n) (x ∷ l) rest e = ap (λ r. x ∷ r) (taken_whole n l rest (omega (arith, e)))

dropped_whole : {A : Type 0} (n : ℕ) (l rest : List A) → length l ≡ n → drop n (l ++ rest) ≡ rest
dropped_whole zero [] rest e = refl
dropped_whole zero (x ∷ l) rest e = absurd (omega (arith, e))
dropped_whole (suc n) [] rest e = absurd (omega (arith, e))
dropped_whole (suc n) (x ∷ l) rest e = dropped_whole n l rest (omega (arith, e))

given_nones : (n : ℕ) → given (replicate n None) ≡ []
given_nones zero = refl
given_nones (suc n) = given_nones n

given_front : (l : List ℕ) (n : ℕ) → given (map Some l ++ replicate n None) ≡ l
given_front [] n = given_nones n
given_front (s ∷ l) n = ap (λ r. s ∷ r) (given_front l n)

pub given_five : (l : List ℕ) → given (in_five l) ≡ l
given_five l = given_front l (5 - length l)

ascend_above : (t low : ℕ) (l : List ℕ) → t < low → Ascend low l → AscendFrom (Some t) l
ascend_above t low [] lt a = tt
ascend_above t low (s ∷ l) lt a = let le = a.1 in (omega (arith, lt, le), ascend_above s (suc s) l (omega arith) a.2)

ascending : (low : ℕ) (l : List ℕ) → Ascend low l → AscendFrom None l
ascending low [] a = tt
ascending low (s ∷ l) a = ascend_above s (suc s) l (omega arith) a.2

-- Cells

cell_back : (k : Setting) (flushed : List (Option ℕ)) (o : Option ShownCell) → ((c : ShownCell) → o ≡ Some c → has_serial flushed c.serial ≡ true → c.hold ≡ None) → shown_cell flushed (cell_made k o) ≡ o
cell_back k flushed None h = refl
cell_back k flushed (Some c) h = ap (λ x. let d : ShownCell = record { serial = c.serial; at = c.at; hold = x } in Some d) (hold_back (has_serial flushed c.serial) (h c refl)) where
  hold_back : (b : Bool) → (b ≡ true → c.hold ≡ None) → shown_hold b c.hold ≡ c.hold
  hold_back true f = sym (f refl)
  hold_back false f = refl

cells_back : (k : Setting) (flushed : List (Option ℕ)) (cells : List (Option ShownCell)) → ((i : ℕ) (c : ShownCell) → slice_get cells i ≡ Some (Some c) → has_serial flushed c.serial ≡ true → c.hold ≡ None)
    → map (shown_cell flushed) (map (cell_made k) cells) ≡ cells
cells_back k flushed [] h = refl
cells_back k flushed (o ∷ cells) h =
    ap (λ x. x ∷ map (shown_cell flushed) (map (cell_made k) cells)) (cell_back k flushed o (λ c e. h 0 c (ap (λ x. Some x) e)))
    ∙ ap (λ l. o ∷ l) (cells_back k flushed cells (λ i c e. h (suc i) c e))

abbrev cell_with : Setting → ShownCell → Cell
cell_with k c = record { serial = c.serial; at = c.at; word = word_or_zero (word_at k.image c.at); hold = c.hold }

made_at : (k : Setting) (cells : List (Option ShownCell)) (i : ℕ) (c : ShownCell) → slice_get cells i ≡ Some (Some c)
    → slice_get (map (cell_made k) cells) i ≡ Some (cell_made k (Some c))
made_at k [] i c e = cc
made_at k (o ∷ cells) zero c e = ap (λ x. Some (cell_made k x)) (some_same o (Some c) e) where
  some_same : (x y : Option ShownCell) → Some x ≡ Some y → x ≡ y
  some_same x y e = cc
made_at k (o ∷ cells) (suc i) c e = made_at k cells i c e

retired_back : (k : Setting) (earlier : List Row) (o : Option ℕ) → retired_serial (retired_made k earlier o) ≡ o
retired_back k earlier None = refl
retired_back k earlier (Some s) = refl

module _ (k : Setting) (earlier : List Row) (s : Shown) (whole : length s.cells ≡ k.shape.stages) (asc : Ascend 0 s.flushed) where
  abbrev row : Row
  row = row_of k earlier s

  stages_made : take k.shape.stages row.cells ≡ map (cell_made k) s.cells
  stages_made = taken_whole k.shape.stages (map (cell_made k) s.cells) (replicate (5 - k.shape.stages) None) (length-map s.cells (cell_made k) ∙ whole)

  pub in_form : IsInForm k row
  in_form = record {
    behind = dropped_whole k.shape.stages (map (cell_made k) s.cells) (replicate (5 - k.shape.stages) None) (length-map s.cells (cell_made k) ∙ whole);
    listed = ap (λ l. in_five l) (sym (given_five s.flushed));
    ascending = subst (λ l. AscendFrom None l) (sym (given_five s.flushed)) (ascending 0 s.flushed asc);
  }

  stands : (i : ℕ) (c : ShownCell) → slice_get s.cells i ≡ Some (Some c) → Stands k row i (cell_with k c)
  stands i c e = ap (λ l. slice_get l i) stages_made ∙ made_at k s.cells i c e

  made_serial : (b : Bool) (own : List Bool) (t : ℕ) (a : StepAnswer) → written_serial (Some (if b then written_of k own t a else no_writes t)) ≡ Some t
  made_serial true own t (Done c) = refl
  made_serial true own t (Stopped stop) = refl
  made_serial false own t a = refl

  written_back : (o : Option ℕ) → written_serial (written_made k earlier o) ≡ o
  written_back None = refl
  written_back (Some t) = made_serial (is_serial (serial_in (unit_written (units_after k earlier))) t) (k.course.own (place earlier t)) t (k.course.answer (place earlier t))

  -- what is shown, by its parts
  abbrev parts : List (Option ShownCell) → Option ℕ → Option ℕ → List ℕ → List ℕ → List ℕ → Shown
  parts cells retired written flushed retired_line written_line =
      record { cells = cells; retired = retired; written = written; flushed = flushed; redirect = s.redirect; stop = s.stop; retired_line = retired_line; written_line = written_line }

  cells_shown : MovesRightly k earlier row → map (shown_cell row.flushed) (take k.shape.stages row.cells) ≡ s.cells
  cells_shown moves =
      ap (λ l. map (shown_cell row.flushed) l) stages_made
      ∙ cells_back k row.flushed s.cells (λ i c e f. (moves.one i (cell_with k c) (stands i c e)).flushed f)

  pub shows : MovesRightly k earlier row → RetiresRightly k earlier s → WritesRightly k earlier s → shown_of k.shape.stages row ≡ s
  shows moves retires writes =
      ap (λ l. parts l (retired_serial row.retired) (written_serial row.written) (given row.flushed) (retired_text row.retired) (written_text row.written)) (cells_shown moves)
      ∙ ap (λ o. parts s.cells o (written_serial row.written) (given row.flushed) (retired_text row.retired) (written_text row.written)) (retired_back k earlier s.retired)
      ∙ ap (λ o. parts s.cells s.retired o (given row.flushed) (retired_text row.retired) (written_text row.written)) (written_back s.written)
      ∙ ap (λ l. parts s.cells s.retired s.written l (retired_text row.retired) (written_text row.written)) (given_five s.flushed)
      ∙ ap (λ l. parts s.cells s.retired s.written s.flushed l (written_text row.written)) (sym retires.line)
      ∙ ap (λ l. parts s.cells s.retired s.written s.flushed s.retired_line l) (sym writes.line)
