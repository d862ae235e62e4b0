-- A run on a core of five stages that forwards: an instruction of an extension reads one register that two older instructions behind EX write, and one that is written. And inputs
-- that are not those of its rows (this project's choice).
use Rattle.std.specs.Prelude.{ℕ, List, [], ◌∷◌, Option, Some, None, if◌then◌else◌, ◌==◌}
use Rattle.rv_asks.specs.declared.asks.Asks.{Asks}
use Rattle.rv_seq.specs.declared.answer.StepAnswer.TheVariants.{Done}
use Rattle.rv_seq.specs.declared.commit.Stop.TheVariants.{Ebreak}
use Rattle.rv_trace.specs.declared.row.Cell.{Cell}
use Rattle.rv_trace.specs.declared.row.Hold.{Hold}
use Rattle.rv_trace.specs.declared.row.Hold.TheVariants.{Operand, Drain, Behind}
use Rattle.rv_trace.specs.declared.row.Row.{Row}
use Rattle.port_laws.specs.Hands.{Hand, five_forwarding, addx, no_customs, no_block, none_own, quiet, puts_to, puts, AreInputs, AreNotInputs, cell, none_flushed, row_with, long_row}

-- what is asked of each word: all but the last one write an x register at EX
abbrev pub asked : ℕ → Asks
asked word = if word == 5243155 then puts_to 2 2 else if word == 2130315 then puts_to 3 2 else if word == 1048691 then quiet no_customs else puts_to 1 2

-- addi x2, x0, 5 (00500113); addi x1, x0, 5 (00500093); addi x1, x0, 7 (00700093); addx x3, x1, x2 (0020818b); ebreak (00100073)
abbrev pub forwarding : Hand
forwarding =
    record {
      shape = five_forwarding;
      registers = [];
      plans = addx ∷ [];
      number = λ word. if word == 2130315 then Some 0 else None;
      asks = asked;
      answers = Done (puts 0 5243155 2 5) ∷ Done (puts 4 5243027 1 5) ∷ Done (puts 8 7340179 1 7) ∷ Done (puts 12 2130315 3 12) ∷ [];
      blocks = λ p. no_block;
      own = none_own;
      loads = λ p. None;
    }

-- its cells
abbrev pub puts_other : Option Cell
puts_other = cell 0 0 5243155 None

abbrev pub puts_five : Option Cell
puts_five = cell 1 4 5243027 None

abbrev pub puts_seven : Option Cell
puts_seven = cell 2 8 7340179 None

abbrev pub adds : Option Hold → Option Cell
adds hold = cell 3 12 2130315 hold

abbrev pub break : Option Hold → Option Cell
break hold = cell 4 16 1048691 hold

-- its rows, the newest first
abbrev pub forwarding_rows : List Row
forwarding_rows =
    row_with (None ∷ None ∷ break None ∷ None ∷ adds None ∷ []) (Some (3, puts 12 2130315 3 12)) none_flushed None (Some Ebreak)
    ∷ long_row None None (break (Some (Drain 3))) (adds None) None None
    ∷ long_row None (break None) (adds None) None puts_seven (Some (2, puts 8 7340179 1 7))
    ∷ long_row (break None) (adds None) None puts_seven puts_five (Some (1, puts 4 5243027 1 5))
    ∷ long_row (break (Some Behind)) (adds (Some (Operand 1 2))) puts_seven puts_five puts_other (Some (0, puts 0 5243155 2 5))
    ∷ long_row (adds None) puts_seven puts_five puts_other None None
    ∷ long_row puts_seven puts_five puts_other None None None
    ∷ long_row puts_five puts_other None None None None
    ∷ long_row puts_other None None None None None
    ∷ []

-- addx: en1 and both operands, which are there in the row behind the one in which it is held
abbrev pub forwarding_inputs : List ℕ → List (List ℕ)
forwarding_inputs moved =
    (0 ∷ 0 ∷ 0 ∷ []) ∷ (1 ∷ 0 ∷ 0 ∷ []) ∷ (1 ∷ 0 ∷ 0 ∷ []) ∷ (1 ∷ 0 ∷ 0 ∷ []) ∷ (0 ∷ 0 ∷ 0 ∷ []) ∷ moved ∷ (1 ∷ 0 ∷ 0 ∷ []) ∷ (0 ∷ 0 ∷ 0 ∷ []) ∷ (0 ∷ 0 ∷ 0 ∷ []) ∷ []

abbrev pub AreForwarding : List (List ℕ) → Type 0
AreForwarding cycles = AreInputs forwarding 0 addx forwarding_rows cycles

abbrev pub AreNotForwarding : List (List ℕ) → Type 0
AreNotForwarding cycles = AreNotInputs forwarding 0 addx forwarding_rows cycles

-- the first operand is that of the younger of both, and the second that of the register file
abbrev pub right : List (List ℕ)
right = forwarding_inputs (1 ∷ 7 ∷ 5 ∷ [])

-- the first operand is that of the register file too, which has neither yet
abbrev pub of_file : List (List ℕ)
of_file = forwarding_inputs (1 ∷ 0 ∷ 5 ∷ [])

-- it is that of the older of both
abbrev pub of_older : List (List ℕ)
of_older = forwarding_inputs (1 ∷ 5 ∷ 5 ∷ [])
