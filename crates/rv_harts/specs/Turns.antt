-- Why a cell of a hart is turned, as the table of holds has it among the cells of this hart (this project's choice). Older cells are given with the oldest first.
use Rattle.std.specs.Prelude.{ℕ, List, find, get_or, Option, Some, None, Bool, true, false, if◌then◌else◌, ◌==◌, is_some, option_map}
use Rattle.std.specs.Option.{option_or}
use Rattle.rv_asks.specs.declared.asks.Asks.{Asks}
use Rattle.rv_holds.specs.Holds.{least_from, register_at, register_count}
use Rattle.rv_holds.specs.Tokens.{stop_in}
use Rattle.rv_lawful.specs.LawfulTrace.{reads_of}
use Rattle.rv_lawful.specs.Outstanding.{has_target, touches}
use Rattle.rv_lawful.specs.Settings.{Setting}
use Rattle.rv_seq.specs.declared.commit.Stop.{Stop}
use Rattle.rv_unit.specs.Entries.{is_number}
use Rattle.rv_harts.specs.declared.row.Turn.{Turn}
use Rattle.rv_harts.specs.declared.row.Turn.TheVariants.{Operand, Board, Custom, Late, Unit, Drain}
use Rattle.rv_harts.specs.Harts.{Fetched}

-- the serial of the oldest of these of which this is true
abbrev pub eldest : (Fetched → Bool) → List Fetched → Option ℕ
eldest f cells = option_map (λ (c : Fetched). c.serial) (find f cells)

-- what is asked of a cell
abbrev pub asked : Setting → Fetched → Asks
asked k c = k.asks c.word

-- the oldest of these that writes the x register r, where the cell reads it
abbrev pub operand_of : Setting → Fetched → List Fetched → ℕ → Option ℕ
operand_of k c older r = if reads_of (asked k c) r then eldest (λ (d : Fetched). (asked k d).destination == r) older else None

-- Operand: the least such register, of what is not retired in an earlier row
abbrev pub operand_turn : Setting → Fetched → List Fetched → Option Turn
operand_turn k c unretired = option_map (λ (found : ℕ × ℕ). Operand found.0 found.1) (least_from (operand_of k c unretired) 0 32)

-- the oldest of these that has the register of this number as spawn target, where the cell reads or writes it
abbrev pub board_of : Setting → Fetched → List Fetched → ℕ → Option ℕ
board_of k c older n = if touches (asked k c) (register_at n) then eldest (λ (d : Fetched). has_target (asked k d) (register_at n)) older else None

-- Board: the least such register, of what is not written in an earlier row
abbrev pub board_turn : Setting → Fetched → List Fetched → Option Turn
board_turn k c unwritten = option_map (λ (found : ℕ × ℕ). Board (register_at found.0) found.1) (least_from (board_of k c unwritten) 0 register_count)

-- the oldest of these that writes the custom register r above EX, where the cell or an always-block reads or writes it
abbrev pub custom_of : Setting → Fetched → List Fetched → ℕ → Option ℕ
custom_of k c older r = if get_or (asked k c).customs r false then eldest (λ (d : Fetched). get_or (asked k d).late_customs r false) older else None

-- Custom: the least such register, of what is not retired in an earlier row
abbrev pub custom_turn : Setting → Fetched → List Fetched → Option Turn
custom_turn k c unretired = option_map (λ (found : ℕ × ℕ). Custom found.0 found.1) (least_from (custom_of k c unretired) 0 16)

-- Late: what is not retired in an earlier row writes the pc above EX
abbrev pub late_turn : Setting → List Fetched → Option Turn
late_turn k unretired = option_map (λ (j : ℕ). Late j) (eldest (λ (d : Fetched). (asked k d).late) unretired)

-- the oldest of these in the unit of the cell, if it has one
abbrev pub unit_of : Setting → Option ℕ → List Fetched → Option Turn
unit_of k None older = None
unit_of k (Some u) older = option_map (λ (j : ℕ). Unit u j) (eldest (λ (d : Fetched). is_number (asked k d).unit u) older)

-- Unit: of the cell's unit something is not written in an earlier row
abbrev pub unit_turn : Setting → Fetched → List Fetched → Option Turn
unit_turn k c unwritten = unit_of k (asked k c).unit unwritten

-- the stop for which a cell is due: that of the step at its place
abbrev pub stop_due : Setting → Fetched → Option Stop
stop_due k c = stop_in (k.course.answer c.place)

-- Drain: the cell is due to stop, and something is not retired, or not written, by the end of the row
abbrev pub drain_turn : Setting → Fetched → List Fetched → Option Turn
drain_turn k c left = if is_some (stop_due k c) then option_map (λ (j : ℕ). Drain j) (eldest (λ (d : Fetched). true) left) else None

-- the first that is true at RD
abbrev pub reading_turn : Setting → Fetched → List Fetched → List Fetched → Option Turn
reading_turn k c unretired unwritten = option_or (operand_turn k c unretired) (board_turn k c unwritten)

-- the first that is true at EX
abbrev pub executing_turn : Setting → Fetched → List Fetched → List Fetched → List Fetched → Option Turn
executing_turn k c unretired unwritten left =
    option_or (custom_turn k c unretired) (option_or (late_turn k unretired) (option_or (unit_turn k c unwritten) (drain_turn k c left)))

-- the first that is true of a cell in this stage, where of what is older these are not retired and these not written in an earlier row, and these are left by the end of this one
abbrev pub turn_of : Setting → ℕ → Fetched → List Fetched → List Fetched → List Fetched → Option Turn
turn_of k stage c unretired unwritten left =
    option_or (if stage == k.shape.rd then reading_turn k c unretired unwritten else None)
    (if stage == k.shape.ex then executing_turn k c unretired unwritten left else None)
