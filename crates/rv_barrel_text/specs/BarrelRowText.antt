-- The text of a row of two harts in turn (this project's choice): as that of a row of a run, with the letter of its hart before each serial and each address of its own.
use Rattle.std.specs.Prelude.{ℕ, suc, List, [], ◌∷◌, ◌++◌, take, Option, Some, None, if◌then◌else◌, ◌==◌, codes, decimal}
use Rattle.std.specs.List.{flat_map}
use Rattle.ix_bits.specs.declared.number.Bits.{Bits}
use Rattle.rv_harts.specs.declared.row.BarrelCell.{BarrelCell}
use Rattle.rv_harts.specs.declared.row.BarrelRow.{BarrelRow}
use Rattle.rv_harts.specs.declared.row.HartPart.{HartPart}
use Rattle.rv_harts.specs.declared.row.Turn.{Turn}
use Rattle.rv_harts.specs.declared.row.Turn.TheVariants.{Operand, Board, Custom, Late, Unit as unit_turn, Drain}
use Rattle.rv_seq.specs.declared.commit.Commit.{Commit}
use Rattle.rv_seq.specs.declared.commit.Slot.{Slot}
use Rattle.rv_seq.specs.declared.commit.Stop.{Stop}
use Rattle.rv_trace.specs.declared.row.Hold.TheVariants as hold
use Rattle.rv_trace.specs.TraceText.{hex_word_text, stop_text, hold_text, mark_text, retired_serial, written_serial, x_write_text, custom_writes_text, writes_text}

-- the letter of a hart
abbrev pub hart_text : ℕ → List ℕ
hart_text h = if h == 0 then codes "a" else codes "b"

-- a turn is named as the hold of the same name is, with what it names in brackets
abbrev pub turn_text : Turn → List ℕ
turn_text (Operand r j) = hold_text (hold.Operand r j)
turn_text (Board t j) = hold_text (hold.Board t j)
turn_text (Custom r j) = hold_text (hold.Custom r j)
turn_text (Late j) = hold_text (hold.Late j)
turn_text (unit_turn u j) = codes "Unit(" ++ decimal u ++ codes "," ++ decimal j ++ codes ")"
turn_text (Drain j) = hold_text (hold.Drain j)

abbrev pub turned_text : Option Turn → List ℕ
turned_text None = []
turned_text (Some turn) = codes "/" ++ turn_text turn

-- a stage: its cell, and why it is turned, where it is
abbrev pub cell_text : Option BarrelCell → List ℕ
cell_text None = codes " -"
cell_text (Some c) = codes " " ++ hart_text c.hart ++ decimal c.serial ++ codes "@" ++ hex_word_text c.at ++ turned_text c.turned

-- the address that the next fetch of a hart takes in place of its own
abbrev pub led_text : ℕ → Option ℕ → List ℕ
led_text h None = []
led_text h (Some a) = codes " p" ++ hart_text h ++ hex_word_text a

-- the stop of a hart
abbrev pub hart_stop_text : ℕ → Option Stop → List ℕ
hart_stop_text h None = []
hart_stop_text h (Some stop) = codes " stop " ++ hart_text h ++ codes " " ++ stop_text stop

-- the marks of a hart: what retires, what is written, what is flushed, where it goes, and why it stops
abbrev pub marks_text : ℕ → HartPart → List ℕ
marks_text h part =
    mark_text (codes " r" ++ hart_text h) (retired_serial part.retired)
    ++ mark_text (codes " w" ++ hart_text h) (written_serial part.written)
    ++ flat_map (mark_text (codes " f" ++ hart_text h)) part.flushed
    ++ led_text h part.redirect
    ++ hart_stop_text h part.stop

-- the line of a retirement of a hart
abbrev pub hart_retired_text : ℕ → Option (ℕ × Commit) → List ℕ
hart_retired_text h None = []
hart_retired_text h (Some p) = codes "=" ++ hart_text h ++ codes " " ++ decimal p.0 ++ codes " " ++ hex_word_text p.1.at ++ codes " " ++ hex_word_text p.1.word ++ writes_text p.1 ++ codes "\n"

-- the line of an outstanding write of a hart that is made
abbrev pub hart_written_text : ℕ → Option (ℕ × ℕ × Slot ℕ × List (Slot Bits)) → List ℕ
hart_written_text h None = []
hart_written_text h (Some p) = codes "+" ++ hart_text h ++ codes " " ++ decimal p.0 ++ x_write_text p.1 p.2 ++ custom_writes_text 0 p.3 ++ codes "\n"

-- the lines of a hart behind that of the row
abbrev pub lines_text : ℕ → HartPart → List ℕ
lines_text h part = hart_retired_text h part.retired ++ hart_written_text h part.written

-- so of each hart, of which the first has this number
abbrev pub of_each : (ℕ → HartPart → List ℕ) → ℕ → List HartPart → List ℕ
of_each text h [] = []
of_each text h (part ∷ parts) = text h part ++ of_each text (suc h) parts

-- the line of a row
abbrev pub barrel_line : ℕ → ℕ → BarrelRow → List ℕ
barrel_line stages number row = decimal number ++ flat_map cell_text (take stages row.cells) ++ of_each marks_text 0 row.parts ++ codes "\n"

-- the lines of a row: its own, and then those of the first hart and those of the second
unfoldable pub barrel_row_text : ℕ → ℕ → BarrelRow → List ℕ
barrel_row_text stages number row = barrel_line stages number row ++ of_each lines_text 0 row.parts

-- the lines of these rows, of which the first has this number
unfoldable pub barrel_rows_text : ℕ → ℕ → List BarrelRow → List ℕ
barrel_rows_text stages number [] = []
barrel_rows_text stages number (row ∷ rest) = barrel_row_text stages number row ++ barrel_rows_text stages (suc number) rest
