-- The text of a trace and of a state (this project's choice). Numbers are decimal; addresses, words and x values have eight hexadecimal digits.
use Rattle.std.specs.Prelude.{ℕ, suc, ◌+◌, ◌*◌, ◌/◌, ◌%◌, ◌^◌, List, [], ◌∷◌, ◌++◌, take, Option, Some, None, Bool, true, false, if◌then◌else◌, ◌==◌, codes, decimal}
use Rattle.std.specs.List.{flat_map}
use Rattle.ix_bits.specs.declared.number.Bits.{Bits}
use Rattle.ix_io.specs.Out.{hex_digits}
use Rattle.rv_trace.specs.declared.row.Cell.{Cell}
use Rattle.rv_trace.specs.declared.row.Row.{Row}
use Rattle.ix_plan.specs.declared.design.Target.{Target}
use Rattle.ix_plan.specs.declared.design.Target.TheVariants.{X, Custom as custom_target}
use Rattle.rv_trace.specs.declared.row.Hold.{Hold}
use Rattle.rv_trace.specs.declared.row.Hold.TheVariants.{Operand, Board, Custom, Late, Trap, Drain, Wait, StoreAhead, Tail, UnitFull, Port, Behind}
use Rattle.ix_eval.specs.declared.access.Access.{Access}
use Rattle.rv_seq.specs.declared.commit.Commit.{Commit}
use Rattle.rv_seq.specs.declared.commit.Slot.{Slot}
use Rattle.rv_seq.specs.declared.commit.Slot.TheVariants.{Absent, Now, Later}
use Rattle.rv_seq.specs.declared.commit.Stop.{Stop}
use Rattle.rv_seq.specs.declared.commit.Stop.TheVariants.{Ecall, Ebreak, Illegal, Fetch, Misaligned, DataRange, Target as target_stop}
use Rattle.rv_trace.specs.Trace.{has_serial}

-- eight hexadecimal digits
abbrev pub hex_word_text : ℕ → List ℕ
hex_word_text value = hex_digits 8 value

-- the names of the stops
abbrev pub stop_text : Stop → List ℕ
stop_text Ecall = codes "Ecall"
stop_text Ebreak = codes "Ebreak"
stop_text Illegal = codes "Illegal"
stop_text Fetch = codes "Fetch"
stop_text Misaligned = codes "Misaligned"
stop_text DataRange = codes "DataRange"
stop_text target_stop = codes "Target"

-- a register by its letter and its number
abbrev pub target_text : Target → List ℕ
target_text (X r) = codes "x" ++ decimal r
target_text (custom_target c) = codes "c" ++ decimal c

-- the name of a hold, with what it names in brackets
abbrev pub hold_text : Hold → List ℕ
hold_text (Operand r j) = codes "Operand(x" ++ decimal r ++ codes "," ++ decimal j ++ codes ")"
hold_text (Board t j) = codes "Board(" ++ target_text t ++ codes "," ++ decimal j ++ codes ")"
hold_text (Custom r j) = codes "Custom(c" ++ decimal r ++ codes "," ++ decimal j ++ codes ")"
hold_text (Late j) = codes "Late(" ++ decimal j ++ codes ")"
hold_text Trap = codes "Trap"
hold_text (Drain j) = codes "Drain(" ++ decimal j ++ codes ")"
hold_text (Wait left) = codes "Wait(" ++ decimal left ++ codes ")"
hold_text (StoreAhead j) = codes "StoreAhead(" ++ decimal j ++ codes ")"
hold_text (Tail left) = codes "Tail(" ++ decimal left ++ codes ")"
hold_text (UnitFull u) = codes "UnitFull(" ++ decimal u ++ codes ")"
hold_text (Port j) = codes "Port(" ++ decimal j ++ codes ")"
hold_text Behind = codes "Behind"

abbrev pub held_text : Bool → Option Hold → List ℕ
held_text true hold = []
held_text false None = []
held_text false (Some hold) = codes "/" ++ hold_text hold

-- a stage: its cell, and the hold where the cell is held and not among the flushed ones
abbrev pub stage_text : List (Option ℕ) → Option Cell → List ℕ
stage_text flushed None = codes " -"
stage_text flushed (Some c) = codes " " ++ decimal c.serial ++ codes "@" ++ hex_word_text c.at ++ held_text (has_serial flushed c.serial) c.hold

-- a mark with a serial
abbrev pub mark_text : List ℕ → Option ℕ → List ℕ
mark_text mark None = []
mark_text mark (Some serial) = mark ++ decimal serial

abbrev pub retired_serial : Option (ℕ × Commit) → Option ℕ
retired_serial None = None
retired_serial (Some p) = Some p.0

abbrev pub written_serial : Option (ℕ × ℕ × Slot ℕ × List (Slot Bits)) → Option ℕ
written_serial None = None
written_serial (Some p) = Some p.0

abbrev pub redirect_text : Option ℕ → List ℕ
redirect_text None = []
redirect_text (Some a) = codes " p" ++ hex_word_text a

-- the address to which the handler returns, where an interrupt is taken
abbrev pub taken_text : Option ℕ → List ℕ
taken_text None = []
taken_text (Some a) = codes " i" ++ hex_word_text a

abbrev pub row_stop_text : Option Stop → List ℕ
row_stop_text None = []
row_stop_text (Some stop) = codes " stop " ++ stop_text stop

-- a write of an x register; one that comes later to x0 is not shown
abbrev pub x_write_text : ℕ → Slot ℕ → List ℕ
x_write_text rd Absent = []
x_write_text rd (Now value) = codes " x" ++ decimal rd ++ codes "=" ++ hex_word_text value
x_write_text rd Later = if rd == 0 then [] else codes " x" ++ decimal rd ++ codes "=later"

-- a write of a custom register, with as many digits as its width needs
abbrev pub custom_write_text : ℕ → Slot Bits → List ℕ
custom_write_text k Absent = []
custom_write_text k (Now value) = codes " c" ++ decimal k ++ codes "=" ++ hex_digits ((value.width + 3) / 4) value.raw
custom_write_text k Later = codes " c" ++ decimal k ++ codes "=later"

abbrev pub custom_writes_text : ℕ → List (Slot Bits) → List ℕ
custom_writes_text k [] = []
custom_writes_text k (s ∷ rest) = custom_write_text k s ++ custom_writes_text (suc k) rest

-- a store, with two digits a byte
abbrev pub store_text : Option (Access × ℕ) → List ℕ
store_text None = []
store_text (Some s) = codes " m" ++ hex_word_text s.0.at ++ codes "=" ++ hex_digits (2 * s.0.bytes) (s.1 % 2 ^ (8 * s.0.bytes))

-- the next pc, where it is not behind the instruction
abbrev pub next_text : ℕ → ℕ → List ℕ
next_text at next = if next == (at + 4) % 2 ^ 32 then [] else codes " pc=" ++ hex_word_text next

abbrev pub writes_text : Commit → List ℕ
writes_text c = x_write_text c.rd_index c.rd ++ custom_writes_text 0 c.custom ++ store_text c.store ++ next_text c.at c.next

-- the line of a retirement
abbrev pub retired_text : Option (ℕ × Commit) → List ℕ
retired_text None = []
retired_text (Some p) = codes "= " ++ decimal p.0 ++ codes " " ++ hex_word_text p.1.at ++ codes " " ++ hex_word_text p.1.word ++ writes_text p.1 ++ codes "\n"

-- the line of an outstanding write that is made
abbrev pub written_text : Option (ℕ × ℕ × Slot ℕ × List (Slot Bits)) → List ℕ
written_text None = []
written_text (Some p) = codes "+ " ++ decimal p.0 ++ x_write_text p.1 p.2 ++ custom_writes_text 0 p.3 ++ codes "\n"

-- the line of a row
abbrev pub row_line : ℕ → ℕ → Row → List ℕ
row_line stages number row =
    decimal number
    ++ flat_map (stage_text row.flushed) (take stages row.cells)
    ++ mark_text (codes " r") (retired_serial row.retired)
    ++ mark_text (codes " w") (written_serial row.written)
    ++ flat_map (mark_text (codes " f")) row.flushed
    ++ redirect_text row.redirect
    ++ taken_text row.taken
    ++ row_stop_text row.stop
    ++ codes "\n"

-- the lines of a row
unfoldable pub row_text : ℕ → ℕ → Row → List ℕ
row_text stages number row = row_line stages number row ++ retired_text row.retired ++ written_text row.written

-- the lines of these rows, of which the first has this number
unfoldable pub trace_text : ℕ → ℕ → List Row → List ℕ
trace_text stages number [] = []
trace_text stages number (row ∷ rest) = row_text stages number row ++ trace_text stages (suc number) rest

-- a register that is not 0
abbrev pub register_text : ℕ → ℕ → List ℕ
register_text n value = if value == 0 then [] else codes "x" ++ decimal n ++ codes " " ++ hex_word_text value ++ codes "\n"

abbrev pub registers_text : ℕ → List ℕ → List ℕ
registers_text n [] = []
registers_text n (value ∷ rest) = register_text n value ++ registers_text (suc n) rest
