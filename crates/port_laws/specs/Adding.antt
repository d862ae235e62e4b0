-- A run on the core of three stages: an instruction of an extension is held by Operand, then reads and moves, and the run stops. And inputs that are not those of its
-- rows (this project's choice).
use Rattle.std.specs.Prelude.{ℕ, List, [], ◌∷◌, Option, Some, None, if◌then◌else◌, ◌==◌}
use Rattle.rv_seq.specs.declared.answer.StepAnswer.TheVariants.{Done}
use Rattle.rv_seq.specs.declared.commit.Stop.TheVariants.{Ebreak}
use Rattle.rv_trace.specs.declared.row.Cell.{Cell}
use Rattle.rv_trace.specs.declared.row.Hold.{Hold}
use Rattle.rv_trace.specs.declared.row.Hold.TheVariants.{Operand, Behind}
use Rattle.rv_trace.specs.declared.row.Row.{Row}
use Rattle.port_laws.specs.Hands.{Hand, three, count, twelve_32, addx, watch, register_0, no_block, none_own, quiet, puts, AreInputs, AreNotInputs, cell, none_flushed, row_with, row_of}

-- addi x1, x0, 5 (00500093); addi x2, x0, 7 (00700113); addx x3, x1, x2 (0020818b); ebreak (00100073)
abbrev pub adding : Hand
adding =
    record {
      shape = three;
      registers = count ∷ [];
      plans = addx ∷ watch 1 twelve_32 ∷ [];
      number = λ word. if word == 2130315 then Some 0 else None;
      asks = λ word. quiet register_0;
      answers = Done (puts 0 5243027 1 5) ∷ Done (puts 4 7340307 2 7) ∷ Done (puts 8 2130315 3 12) ∷ [];
      blocks = λ p. no_block;
      own = none_own;
      loads = λ p. None;
    }

-- its cells
abbrev pub puts_five : Option Cell
puts_five = cell 0 0 5243027 None

abbrev pub puts_seven : Option Cell
puts_seven = cell 1 4 7340307 None

abbrev pub adds : Option Hold → Option Cell
adds hold = cell 2 8 2130315 hold

abbrev pub break : Option Hold → Option Cell
break hold = cell 3 12 1048691 hold

-- the row in which the sum is held
abbrev pub held_row : Row
held_row = row_of (break (Some Behind)) (adds (Some (Operand 2 1))) puts_seven (Some (1, puts 4 7340307 2 7))

-- its rows, the newest first
abbrev pub adding_rows : List Row
adding_rows =
    row_with (None ∷ break None ∷ adds None ∷ None ∷ None ∷ []) (Some (2, puts 8 2130315 3 12)) none_flushed None (Some Ebreak)
    ∷ row_of (break None) (adds None) None None
    ∷ held_row
    ∷ row_of (adds None) puts_seven puts_five (Some (0, puts 0 5243027 1 5))
    ∷ row_of puts_seven puts_five None None
    ∷ row_of puts_five None None None
    ∷ []

-- addx: en1 and both operands. What is held has no operands; then these are there, and the cell moves; what stops the run does not move
abbrev pub adding_inputs : List ℕ → List ℕ → List ℕ → List (List ℕ)
adding_inputs held moved stopped = (0 ∷ 0 ∷ 0 ∷ []) ∷ (1 ∷ 0 ∷ 0 ∷ []) ∷ (1 ∷ 0 ∷ 0 ∷ []) ∷ held ∷ moved ∷ stopped ∷ []

abbrev pub AreAdding : List (List ℕ) → Type 0
AreAdding cycles = AreInputs adding 0 addx adding_rows cycles

abbrev pub AreNotAdding : List (List ℕ) → Type 0
AreNotAdding cycles = AreNotInputs adding 0 addx adding_rows cycles

abbrev pub right : List (List ℕ)
right = adding_inputs (0 ∷ 0 ∷ 0 ∷ []) (1 ∷ 5 ∷ 7 ∷ []) (0 ∷ 0 ∷ 0 ∷ [])

-- the first operand is there, though the cell is held for the second one
abbrev pub reads_while_held : List (List ℕ)
reads_while_held = adding_inputs (0 ∷ 5 ∷ 0 ∷ []) (1 ∷ 5 ∷ 7 ∷ []) (0 ∷ 0 ∷ 0 ∷ [])

-- it moves, though it is held
abbrev pub moves_while_held : List (List ℕ)
moves_while_held = adding_inputs (1 ∷ 0 ∷ 0 ∷ []) (1 ∷ 5 ∷ 7 ∷ []) (0 ∷ 0 ∷ 0 ∷ [])

-- the second operand is that of the row before
abbrev pub stale_operand : List (List ℕ)
stale_operand = adding_inputs (0 ∷ 0 ∷ 0 ∷ []) (1 ∷ 5 ∷ 0 ∷ []) (0 ∷ 0 ∷ 0 ∷ [])

-- the operands are there once more, behind RD
abbrev pub reads_twice : List (List ℕ)
reads_twice = adding_inputs (0 ∷ 0 ∷ 0 ∷ []) (1 ∷ 5 ∷ 7 ∷ []) (0 ∷ 5 ∷ 7 ∷ [])

-- what stops the run moves
abbrev pub moves_at_stop : List (List ℕ)
moves_at_stop = adding_inputs (0 ∷ 0 ∷ 0 ∷ []) (1 ∷ 5 ∷ 7 ∷ []) (1 ∷ 0 ∷ 0 ∷ [])

-- the block: N and the pc of the cell at EX, whatever it is; none of one that is held by Operand, and those of the one that stops
abbrev pub watch_inputs : List ℕ → List ℕ → List (List ℕ)
watch_inputs held stopped = (0 ∷ 0 ∷ []) ∷ (0 ∷ 0 ∷ []) ∷ (0 ∷ 4 ∷ []) ∷ held ∷ (0 ∷ 8 ∷ []) ∷ stopped ∷ []

abbrev pub AreWatching : List (List ℕ) → Type 0
AreWatching cycles = AreInputs adding 1 (watch 1 twelve_32) adding_rows cycles

abbrev pub AreNotWatching : List (List ℕ) → Type 0
AreNotWatching cycles = AreNotInputs adding 1 (watch 1 twelve_32) adding_rows cycles

abbrev pub watched : List (List ℕ)
watched = watch_inputs (0 ∷ 0 ∷ []) (0 ∷ 12 ∷ [])

-- it sees the pc of a cell that is held by Operand
abbrev pub watches_held : List (List ℕ)
watches_held = watch_inputs (0 ∷ 8 ∷ []) (0 ∷ 12 ∷ [])

-- it does not see the cell that stops the run
abbrev pub blind_at_stop : List (List ℕ)
blind_at_stop = watch_inputs (0 ∷ 0 ∷ []) (0 ∷ 0 ∷ [])
