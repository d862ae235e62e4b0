-- What the text of a trace shows of a row (this project's choice): the words of the cells, the parts of a commit that have no line of their own, and the hold of a flushed cell are
-- left out.
use Rattle.std.specs.Prelude.{◌≡◌, ℕ, suc, ◌-◌, List, [], ◌∷◌, ◌++◌, map, take, drop, Option, Some, None, Bool, true, false, codes, decimal}
use Rattle.std.specs.List.{flat_map}
use Rattle.rv_seq.specs.declared.commit.Stop.{Stop}
use Rattle.rv_trace.specs.declared.row.Cell.{Cell}
use Rattle.rv_trace.specs.declared.row.Hold.{Hold}
use Rattle.rv_trace.specs.declared.row.Row.{Row}
use Rattle.rv_trace.specs.Trace.{has_serial}
use Rattle.rv_trace.specs.TraceText.{hex_word_text, hold_text, mark_text, retired_serial, written_serial, redirect_text, row_stop_text, retired_text, written_text, row_text}
use Rattle.rv_trace.specs.RowParts.{given}
use Rattle.rv_shown.specs.declared.shown.ShownCell.{ShownCell}
use Rattle.rv_shown.specs.declared.shown.ShownRow.{ShownRow}
use Rattle.rv_shown.specs.declared.shown.Span.{Span}

-- what is shown of a row: the cell of each stage of the core, the marks, and the lines of what retires and of the outstanding writes that are made
pub record Shown : Type 0 where
  pub cells : List (Option ShownCell)
  pub retired : Option ℕ
  pub written : Option ℕ
  pub flushed : List ℕ
  pub redirect : Option ℕ
  pub stop : Option Stop
  pub retired_line : List ℕ
  pub written_line : List ℕ

-- a flushed cell shows no hold
abbrev pub shown_hold : Bool → Option Hold → Option Hold
shown_hold true hold = None
shown_hold false hold = hold

abbrev pub shown_cell : List (Option ℕ) → Option Cell → Option ShownCell
shown_cell flushed None = None
shown_cell flushed (Some c) = Some (record { serial = c.serial; at = c.at; hold = shown_hold (has_serial flushed c.serial) c.hold })

-- what the text of a row on a core with so many stages shows
abbrev pub shown_of : ℕ → Row → Shown
shown_of stages row =
    record {
      cells = map (shown_cell row.flushed) (take stages row.cells);
      retired = retired_serial row.retired;
      written = written_serial row.written;
      flushed = given row.flushed;
      redirect = row.redirect;
      stop = row.stop;
      retired_line = retired_text row.retired;
      written_line = written_text row.written;
    }

-- Texts

abbrev pub hold_part : Option Hold → List ℕ
hold_part None = []
hold_part (Some hold) = codes "/" ++ hold_text hold

-- a stage: its cell, with the hold where there is one
abbrev pub cell_text : Option ShownCell → List ℕ
cell_text None = codes " -"
cell_text (Some c) = codes " " ++ decimal c.serial ++ codes "@" ++ hex_word_text c.at ++ hold_part c.hold

abbrev pub flushed_text : ℕ → List ℕ
flushed_text serial = codes " f" ++ decimal serial

-- the line of what is shown of the row with this number
abbrev pub shown_line : ℕ → Shown → List ℕ
shown_line number s =
    decimal number
    ++ flat_map cell_text s.cells
    ++ mark_text (codes " r") s.retired
    ++ mark_text (codes " w") s.written
    ++ flat_map flushed_text s.flushed
    ++ redirect_text s.redirect
    ++ row_stop_text s.stop
    ++ codes "\n"

-- its lines
abbrev pub shown_text : ℕ → Shown → List ℕ
shown_text number s = shown_line number s ++ s.retired_line ++ s.written_line

-- the lines of rows, of which the first has this number
unfoldable pub shown_texts : ℕ → List Shown → List ℕ
shown_texts number [] = []
shown_texts number (s ∷ rest) = shown_text number s ++ shown_texts (suc number) rest

-- the text of a row that takes no interrupt is that of what it shows
abbrev pub TextLaw : Type 0
TextLaw = (stages number : ℕ) (row : Row) → row.taken ≡ None → row_text stages number row ≡ shown_text number (shown_of stages row)

-- Rows that were read

-- a part of a text
abbrev pub part_of : List ℕ → Span → List ℕ
part_of text span = take (span.end - span.start) (drop span.start text)

-- what a row that was read shows, on a core with so many stages
abbrev pub shown_in : ℕ → List ℕ → ShownRow → Shown
shown_in stages text row =
    record {
      cells = take stages row.cells;
      retired = row.retired;
      written = row.written;
      flushed = given row.flushed;
      redirect = row.redirect;
      stop = row.stop;
      retired_line = part_of text row.retired_line;
      written_line = part_of text row.written_line;
    }
