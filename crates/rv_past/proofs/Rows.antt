-- The row that is made is the one of which a text shows this.
use Rattle.std.proofs.Common.{◌≡◌, ◌∙◌, refl, sym, ap, subst, ℕ, ◌-◌, List, [], ◌∷◌, ◌++◌, map, take, Option, Some, None, Bool, true, false, arith}
use Rattle.std.specs.Prelude.{replicate, ◌==◌, if◌then◌else◌}
use Rattle.std.proofs.lemmas.Bool.Decides.{nat_tests}
use Rattle.ix_plan.specs.Units.{unit_written}
use Rattle.rv_core.specs.declared.Shape.{Shape}
use Rattle.rv_seq.specs.declared.answer.StepAnswer.{StepAnswer}
use Rattle.rv_seq.specs.declared.answer.StepAnswer.TheVariants.{Done, Stopped}
use Rattle.rv_seq.specs.declared.commit.Commit.{Commit}
use Rattle.rv_past.specs.declared.step.Step.{Step}
use Rattle.rv_trace.specs.declared.row.Cell.{Cell}
use Rattle.rv_trace.specs.declared.row.Row.{Row}
use Rattle.rv_trace.specs.Trace.{place, retirements}
use Rattle.rv_trace.specs.RowParts.{given, in_five}
use Rattle.rv_lawful.specs.Settings.{Setting}
use Rattle.rv_lawful.specs.Outstanding.{Written, is_serial, units_after}
use Rattle.rv_lawful.specs.LawfulTrace.{serial_in}
use Rattle.rv_shown.specs.declared.shown.ShownCell.{ShownCell}
use Rattle.rv_shown.specs.declared.shown.ShownRow.{ShownRow}
use Rattle.rv_shown.specs.Shown.{shown_in}
use Rattle.rv_rows.specs.Made.{cell_made, record_of, retired_made, no_writes, written_of, written_made, row_of}
use Rattle.rv_past.specs.declared.due.Due.{Due}
use Rattle.rv_past.specs.Due.{IsDue}
use Rattle.rv_past.specs.Making.{IsWriting, cell_from, record_from, written_from, written_with, retired_from, written_where}

equal_test : (a b : ℕ) → (a == b) ≡ true → a ≡ b
equal_test a b e = grind (arith, nat_tests)

-- cells

cell_same : (k : Setting) (image : List ℕ) → k.image ≡ image → (c : Option ShownCell) → cell_from image c ≡ cell_made k c
cell_same k image e None = refl
cell_same k image e (Some c) = ap (λ i. cell_from i (Some c)) (sym e)

cells_same : (k : Setting) (image : List ℕ) → k.image ≡ image → (cells : List (Option ShownCell)) → map (cell_from image) cells ≡ map (cell_made k) cells
cells_same k image e [] = refl
cells_same k image e (c ∷ rest) = ap (λ d. d ∷ map (cell_from image) rest) (cell_same k image e c) ∙ ap (λ l. cell_made k c ∷ l) (cells_same k image e rest)

-- what is retired

answer_same : (k : Setting) (p : ℕ) (due : Due) → IsDue k p due → due.step.answer ≡ k.course.answer p
answer_same k p due h = ap (λ (s : Step). s.answer) h.step

record_by : (k : Setting) (p : ℕ) (due : Due) → IsDue k p due → (a : StepAnswer) → due.step.answer ≡ a → record_from due.asks a ≡ record_of k a
record_by k p due h (Done c) e = ap (λ b. record_from b (Done c)) (h.asks c e)
record_by k p due h (Stopped stop) e = refl

retired_same : (k : Setting) (earlier : List Row) (next : Due) → IsDue k (retirements earlier) next → (o : Option ℕ) → retired_from next o ≡ retired_made k earlier o
retired_same k earlier next h None = refl
retired_same k earlier next h (Some s) =
    ap (λ (c : Commit). Some (s, c)) (record_by k (retirements earlier) next h next.step.answer refl ∙ ap (λ a. record_of k a) (answer_same k (retirements earlier) next h))

-- what is written

written_by : (k : Setting) (p s : ℕ) (due : Due) → IsDue k p due → (own : List Bool) (a : StepAnswer) → due.step.answer ≡ a → written_from due.asks own s a ≡ written_of k own s a
written_by k p s due h own (Done c) e = ap (λ b. written_from b own s (Done c)) (h.asks c e)
written_by k p s due h own (Stopped stop) e = refl

due_written : (k : Setting) (p s : ℕ) (due : Due) → IsDue k p due → written_from due.asks due.step.own s due.step.answer ≡ written_of k (k.course.own p) s (k.course.answer p)
due_written k p s due h =
    written_by k p s due h due.step.own due.step.answer refl
    ∙ ap (λ a. written_of k due.step.own s a) (answer_same k p due h)
    ∙ ap (λ (d : Step). written_of k d.own s (k.course.answer p)) h.step

written_one : (k : Setting) (earlier : List Row) (writing : Option (ℕ × Due)) (s : ℕ) → IsWriting k earlier writing
    → written_with writing s ≡ (if is_serial (serial_in (unit_written (units_after k earlier))) s then written_of k (k.course.own (place earlier s)) s (k.course.answer (place earlier s)) else no_writes s)
written_one k earlier None s h = ap (λ o. if is_serial o s then written_of k (k.course.own (place earlier s)) s (k.course.answer (place earlier s)) else no_writes s) (sym h)
written_one k earlier (Some w) s h =
    by_case (w.0 == s) refl
    ∙ ap (λ o. if is_serial o s then written_of k (k.course.own (place earlier s)) s (k.course.answer (place earlier s)) else no_writes s) (sym h.0) where
      by_case : (b : Bool) → (w.0 == s) ≡ b
          → (if b then written_from w.1.asks w.1.step.own s w.1.step.answer else no_writes s) ≡ (if b then written_of k (k.course.own (place earlier s)) s (k.course.answer (place earlier s)) else no_writes s)
      by_case true e = due_written k (place earlier s) s w.1 (subst (λ n. IsDue k (place earlier n) w.1) (equal_test w.0 s e) h.1)
      by_case false e = refl

written_same : (k : Setting) (earlier : List Row) (writing : Option (ℕ × Due)) → IsWriting k earlier writing → (o : Option ℕ) → written_where writing o ≡ written_made k earlier o
written_same k earlier writing h None = refl
written_same k earlier writing h (Some s) = ap (λ (w : Written). Some w) (written_one k earlier writing s h)

-- the row

abbrev row_with : List (Option Cell) → Option (ℕ × Commit) → Option Written → ShownRow → Row
row_with cells retired written row =
    record { cells = cells; retired = retired; written = written; flushed = in_five (given row.flushed); redirect = row.redirect; taken = None; stop = row.stop }

pub row_same : (k : Setting) (earlier : List Row) (text : List ℕ) (shape : Shape) (image : List ℕ) (next : Due) (writing : Option (ℕ × Due)) (row : ShownRow)
    → k.shape ≡ shape → k.image ≡ image → IsDue k (retirements earlier) next → IsWriting k earlier writing
    → row_with (map (cell_from image) (take shape.stages row.cells) ++ replicate (5 - shape.stages) None) (retired_from next row.retired) (written_where writing row.written) row
    ≡ row_of k earlier (shown_in shape.stages text row)
row_same k earlier text shape image next writing row same here due writes_due =
    ap (λ (l : List (Option Cell)). row_with (l ++ replicate (5 - shape.stages) None) (retired_from next row.retired) (written_where writing row.written) row) (cells_same k image here (take shape.stages row.cells))
    ∙ ap (λ (s : Shape). row_with (map (cell_made k) (take shape.stages row.cells) ++ replicate (5 - s.stages) None) (retired_from next row.retired) (written_where writing row.written) row) (sym same)
    ∙ ap (λ r. row_with (map (cell_made k) (take shape.stages row.cells) ++ replicate (5 - k.shape.stages) None) r (written_where writing row.written) row) (retired_same k earlier next due row.retired)
    ∙ ap (λ w. row_with (map (cell_made k) (take shape.stages row.cells) ++ replicate (5 - k.shape.stages) None) (retired_made k earlier row.retired) w row) (written_same k earlier writing writes_due row.written)

pub made_same : (k : Setting) (earlier : List Row) (text : List ℕ) (shape : Shape) (image : List ℕ) (next : Due) (writing : Option (ℕ × Due)) (row : ShownRow)
    (cells : List (Option Cell)) (retired : Option (ℕ × Commit)) (written : Option Written) (flushed : List (Option ℕ))
    → cells ≡ map (cell_from image) (take shape.stages row.cells) ++ replicate (5 - shape.stages) None → retired ≡ retired_from next row.retired → written ≡ written_where writing row.written → flushed ≡ in_five (given row.flushed)
    → k.shape ≡ shape → k.image ≡ image → IsDue k (retirements earlier) next → IsWriting k earlier writing
    → record { cells = cells; retired = retired; written = written; flushed = flushed; redirect = row.redirect; taken = None; stop = row.stop } ≡ row_of k earlier (shown_in shape.stages text row)
made_same k earlier text shape image next writing row cells retired written flushed cells_are retired_is written_is flushed_are same here due writes_due =
    ap (λ (l : List (Option Cell)). parts l retired written flushed) cells_are
    ∙ ap (λ r. parts (map (cell_from image) (take shape.stages row.cells) ++ replicate (5 - shape.stages) None) r written flushed) retired_is
    ∙ ap (λ w. parts (map (cell_from image) (take shape.stages row.cells) ++ replicate (5 - shape.stages) None) (retired_from next row.retired) w flushed) written_is
    ∙ ap (λ f. parts (map (cell_from image) (take shape.stages row.cells) ++ replicate (5 - shape.stages) None) (retired_from next row.retired) (written_where writing row.written) f) flushed_are
    ∙ row_same k earlier text shape image next writing row same here due writes_due where
      parts : List (Option Cell) → Option (ℕ × Commit) → Option Written → List (Option ℕ) → Row
      parts cells retired written flushed = record { cells = cells; retired = retired; written = written; flushed = flushed; redirect = row.redirect; taken = None; stop = row.stop }
