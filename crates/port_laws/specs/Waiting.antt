-- A run on the core of five stages: an instruction of an extension is held by Behind at RD with both operands, and an always-block writes a custom register that the cells behind
-- it read. And inputs that are not those of its rows (this project's choice).
use Rattle.std.specs.Prelude.{ℕ, List, [], ◌∷◌, Option, Some, None, if◌then◌else◌, ◌==◌}
use Rattle.rv_seq.specs.declared.answer.StepAnswer.TheVariants.{Done}
use Rattle.rv_seq.specs.declared.commit.Commit.{Commit}
use Rattle.rv_seq.specs.declared.commit.Slot.TheVariants.{Now}
use Rattle.rv_seq.specs.declared.commit.Stop.TheVariants.{Ebreak}
use Rattle.rv_trace.specs.declared.row.Cell.{Cell}
use Rattle.rv_trace.specs.declared.row.Hold.{Hold}
use Rattle.rv_trace.specs.declared.row.Hold.TheVariants.{Operand, Drain, Wait, Behind}
use Rattle.rv_trace.specs.declared.row.Row.{Row}
use Rattle.port_laws.specs.Hands.{Hand, five, count, seven_8, twelve_32, first_word, addx, watch, register_0, no_block, block_7, none_own, quiet, writes, puts, AreInputs, AreNotInputs, cell, none_flushed, row_with, long_row}

-- lw x4, 0(x5) at 12, beside which the block writes
abbrev pub load_record : Commit
load_record = writes 12 172547 4 (Now 0) (Now seven_8)

-- lui x5, 0x80000 (800002b7); addi x1, x0, 5 (00500093); addi x2, x0, 7 (00700113); lw x4, 0(x5) (0002a203); addi x6, x0, 1 (00100313); addx x3, x1, x2 (0020818b);
-- ebreak (00100073); the memory makes the first access wait for a row
abbrev pub waiting : Hand
waiting =
    record {
      shape = five;
      registers = count ∷ [];
      plans = addx ∷ watch 2 twelve_32 ∷ [];
      number = λ word. if word == 2130315 then Some 0 else None;
      asks = λ word. quiet register_0;
      answers =
          Done (puts 0 2147484343 5 2147483648) ∷ Done (puts 4 5243027 1 5) ∷ Done (puts 8 7340307 2 7) ∷ Done load_record ∷ Done (puts 16 1049363 6 1) ∷ Done (puts 20 2130315 3 12) ∷ [];
      blocks = λ p. if p == 3 then block_7 else no_block;
      own = none_own;
      loads = λ p. if p == 3 then Some first_word else None;
    }

-- its cells
abbrev pub points : Option Cell
points = cell 0 0 2147484343 None

abbrev pub puts_five : Option Cell
puts_five = cell 1 4 5243027 None

abbrev pub puts_seven : Option Cell
puts_seven = cell 2 8 7340307 None

abbrev pub loads : Option Hold → Option Cell
loads hold = cell 3 12 172547 hold

abbrev pub puts_one : Option Hold → Option Cell
puts_one hold = cell 4 16 1049363 hold

abbrev pub adds : Option Hold → Option Cell
adds hold = cell 5 20 2130315 hold

abbrev pub break : Option Hold → Option Cell
break hold = cell 6 24 1048691 hold

-- its rows, the newest first
abbrev pub waiting_rows : List Row
waiting_rows =
    row_with (None ∷ None ∷ break None ∷ None ∷ adds None ∷ []) (Some (5, puts 20 2130315 3 12)) none_flushed None (Some Ebreak)
    ∷ long_row None None (break (Some (Drain 5))) (adds None) (puts_one None) (Some (4, puts 16 1049363 6 1))
    ∷ long_row None (break None) (adds None) (puts_one None) (loads None) (Some (3, load_record))
    ∷ long_row (break None) (adds None) (puts_one None) (loads None) None None
    ∷ long_row (break (Some Behind)) (adds (Some Behind)) (puts_one (Some Behind)) (loads (Some (Wait 1))) None None
    ∷ long_row (adds None) (puts_one None) (loads None) None puts_seven (Some (2, puts 8 7340307 2 7))
    ∷ long_row (puts_one None) (loads None) None puts_seven puts_five (Some (1, puts 4 5243027 1 5))
    ∷ long_row (puts_one (Some Behind)) (loads (Some (Operand 5 0))) puts_seven puts_five points (Some (0, puts 0 2147484343 5 2147483648))
    ∷ long_row (loads None) puts_seven puts_five points None None
    ∷ long_row puts_seven puts_five points None None None
    ∷ long_row puts_five points None None None None
    ∷ long_row points None None None None None
    ∷ []

-- addx: en1 and both operands, which are there in the row in which it is held by Behind and in the next one
abbrev pub waiting_inputs : List ℕ → List ℕ → List (List ℕ)
waiting_inputs held moved =
    (0 ∷ 0 ∷ 0 ∷ []) ∷ (1 ∷ 0 ∷ 0 ∷ []) ∷ (1 ∷ 0 ∷ 0 ∷ []) ∷ (1 ∷ 0 ∷ 0 ∷ []) ∷ (0 ∷ 0 ∷ 0 ∷ []) ∷ (1 ∷ 0 ∷ 0 ∷ []) ∷ (1 ∷ 0 ∷ 0 ∷ []) ∷ held ∷ moved ∷ (1 ∷ 0 ∷ 0 ∷ [])
    ∷ (0 ∷ 0 ∷ 0 ∷ []) ∷ (0 ∷ 0 ∷ 0 ∷ []) ∷ []

abbrev pub AreWaiting : List (List ℕ) → Type 0
AreWaiting cycles = AreInputs waiting 0 addx waiting_rows cycles

abbrev pub AreNotWaiting : List (List ℕ) → Type 0
AreNotWaiting cycles = AreNotInputs waiting 0 addx waiting_rows cycles

abbrev pub right : List (List ℕ)
right = waiting_inputs (0 ∷ 5 ∷ 7 ∷ []) (1 ∷ 5 ∷ 7 ∷ [])

-- no operands where the cell is held by Behind
abbrev pub silent_behind : List (List ℕ)
silent_behind = waiting_inputs (0 ∷ 0 ∷ 7 ∷ []) (1 ∷ 5 ∷ 7 ∷ [])

-- it moves, though the next stage is taken
abbrev pub moves_behind : List (List ℕ)
moves_behind = waiting_inputs (1 ∷ 5 ∷ 7 ∷ []) (1 ∷ 5 ∷ 7 ∷ [])

-- it does not move where nothing holds it
abbrev pub idle : List (List ℕ)
idle = waiting_inputs (0 ∷ 5 ∷ 7 ∷ []) (0 ∷ 5 ∷ 7 ∷ [])

-- the block: en1, custom register 0 and the pc of the cell at EX. What it writes beside the load is there behind that; a cell that drains or stops the run is seen, and nothing moves
-- in the last row
abbrev pub watch_inputs : List ℕ → List ℕ → List (List ℕ)
watch_inputs behind stopped =
    (0 ∷ 0 ∷ 0 ∷ []) ∷ (1 ∷ 0 ∷ 0 ∷ []) ∷ (1 ∷ 0 ∷ 0 ∷ []) ∷ (1 ∷ 0 ∷ 4 ∷ []) ∷ (0 ∷ 0 ∷ 8 ∷ []) ∷ (1 ∷ 0 ∷ 0 ∷ []) ∷ (1 ∷ 0 ∷ 12 ∷ []) ∷ behind ∷ (1 ∷ 7 ∷ 16 ∷ []) ∷ (1 ∷ 7 ∷ 20 ∷ [])
    ∷ (0 ∷ 7 ∷ 24 ∷ []) ∷ stopped ∷ []

abbrev pub AreWatching : List (List ℕ) → Type 0
AreWatching cycles = AreInputs waiting 1 (watch 2 twelve_32) waiting_rows cycles

abbrev pub AreNotWatching : List (List ℕ) → Type 0
AreNotWatching cycles = AreNotInputs waiting 1 (watch 2 twelve_32) waiting_rows cycles

abbrev pub watched : List (List ℕ)
watched = watch_inputs (0 ∷ 7 ∷ 16 ∷ []) (0 ∷ 7 ∷ 24 ∷ [])

-- what it wrote is not there yet, as in the architectural state, where it comes with the retirement of the load
abbrev pub written_late : List (List ℕ)
written_late = watch_inputs (0 ∷ 0 ∷ 16 ∷ []) (0 ∷ 7 ∷ 24 ∷ [])

-- the cell that stops the run is not seen
abbrev pub blind_at_stop : List (List ℕ)
blind_at_stop = watch_inputs (0 ∷ 7 ∷ 16 ∷ []) (0 ∷ 7 ∷ 0 ∷ [])
