-- Rows that are made of what a text shows are in form, and behind rows that go on they move as they stand.
use Rattle.std.proofs.Common.{◌≡◌, ◌∙◌, sym, ap, subst, ℕ, List, None, true, inl, inr}
use Rattle.rv_trace.specs.declared.row.Row.{Row}
use Rattle.rv_trace.specs.Trace.{newest}
use Rattle.rv_trace.specs.RowParts.{names_of}
use Rattle.rv_lawful.specs.Settings.{Setting, stages_of}
use Rattle.rv_lawful.specs.LawfulTrace.{IsInForm}
use Rattle.rv_rows.specs.Facts.{AreGoingOn, MoveAbove, MovesAbove}
use Rattle.rv_shown.specs.Shown.{Shown}
use Rattle.rv_reader.specs.Forms.{IsRow}
use Rattle.rv_rows.specs.Kinds.{is_of_cell, GoesOnAs, MovesRightly}
use Rattle.rv_rows.specs.Made.{row_of}
use Rattle.rv_watch.proofs.Making.{in_form}

pub form_of : (widths : List ℕ) (k : Setting) (earlier : List Row) (s : Shown) → IsRow widths k.shape.stages s → IsInForm k (row_of k earlier s)
form_of widths k earlier s f = in_form k earlier s f.line.stages_are f.line.flushed

-- behind rows that go on a row moves as it stands
pub moves_above : (k : Setting) (earlier : List Row) (row : Row) → AreGoingOn k earlier → MovesRightly k earlier row → MovesAbove k earlier row
moves_above k earlier row going m = subst (λ (like : Row). MoveAbove like (stages_of k like) (names_of (stages_of k row))) (goes_on m.above.0 m.above.1) m.above.2 where
  goes_on : (like : Row) → GoesOnAs k (newest earlier) like → like ≡ newest earlier
  goes_on like (inl x) = x.1
  goes_on like (inr y) = let e = y.0 in let bad : is_of_cell None ≡ true = sym (ap (λ o. is_of_cell o) going.going) ∙ e in cc
