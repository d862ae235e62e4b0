-- The text of a row is that of what it shows.
use Rattle.std.proofs.Common.{◌≡◌, ◌∙◌, refl, ap, ℕ, List, [], ◌∷◌, ◌++◌, map, take, Option, Some, None, Bool, true, false}
use Rattle.std.specs.Prelude.{codes, decimal}
use Rattle.std.specs.List.{flat_map}
use Rattle.std.proofs.lemmas.List.{append-nil}
use Rattle.rv_trace.specs.declared.row.Cell.{Cell}
use Rattle.rv_trace.specs.declared.row.Hold.{Hold}
use Rattle.rv_trace.specs.Trace.{has_serial}
use Rattle.rv_trace.specs.TraceText.{hex_word_text, stage_text, held_text, mark_text, row_text, retired_text, written_text, taken_text, retired_serial, written_serial, redirect_text, row_stop_text}
use Rattle.rv_trace.specs.RowParts.{given}
use Rattle.rv_shown.specs.Shown.{shown_hold, shown_cell, hold_part, cell_text, flushed_text, TextLaw}

hold_same : (flushed : Bool) (hold : Option Hold) → held_text flushed hold ≡ hold_part (shown_hold flushed hold)
hold_same true hold = refl
hold_same false None = refl
hold_same false (Some hold) = refl

stage_same : (flushed : List (Option ℕ)) (cell : Option Cell) → stage_text flushed cell ≡ cell_text (shown_cell flushed cell)
stage_same flushed None = refl
stage_same flushed (Some c) = ap (λ l. codes " " ++ decimal c.serial ++ codes "@" ++ hex_word_text c.at ++ l) (hold_same (has_serial flushed c.serial) c.hold)

stages_same : (flushed : List (Option ℕ)) (cells : List (Option Cell)) → flat_map (stage_text flushed) cells ≡ flat_map cell_text (map (shown_cell flushed) cells)
stages_same flushed [] = refl
stages_same flushed (cell ∷ cells) = cc (stage_same flushed cell, stages_same flushed cells)

marks_same : (flushed : List (Option ℕ)) → flat_map (mark_text (codes " f")) flushed ≡ flat_map flushed_text (given flushed)
marks_same [] = refl
marks_same (None ∷ rest) = marks_same rest
marks_same (Some s ∷ rest) = ap (λ l. (codes " f" ++ decimal s) ++ l) (marks_same rest)

taken_gone : (taken : Option ℕ) (before : List ℕ) → taken ≡ None → before ++ taken_text taken ≡ before
taken_gone None before e = append-nil before
taken_gone (Some at) before e = cc

pub text_law : TextLaw
unfolding row_text
text_law stages number row e =
    ap (λ a. whole (before a (flat_map (mark_text (codes " f")) row.flushed) ++ taken_text row.taken)) (stages_same row.flushed (take stages row.cells))
    ∙ ap (λ f. whole (before cells f ++ taken_text row.taken)) (marks_same row.flushed)
    ∙ ap (λ l. whole l) (taken_gone row.taken (before cells (flat_map flushed_text (given row.flushed))) e) where
      cells : List ℕ
      cells = flat_map cell_text (map (shown_cell row.flushed) (take stages row.cells))

      before : List ℕ → List ℕ → List ℕ
      before cells flushed =
          decimal number
          ++ cells
          ++ mark_text (codes " r") (retired_serial row.retired)
          ++ mark_text (codes " w") (written_serial row.written)
          ++ flushed
          ++ redirect_text row.redirect

      whole : List ℕ → List ℕ
      whole line = line ++ row_stop_text row.stop ++ codes "\n" ++ retired_text row.retired ++ written_text row.written
