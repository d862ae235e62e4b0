-- A run on a core of five stages that forwards: an instruction of an extension reads the register to which a jump writes its link, and is flushed at RD in the row in which the jump
-- leaves EX. And inputs that are not those of its rows (this project's choice).
use Rattle.std.specs.Prelude.{ℕ, List, [], ◌∷◌, replicate, Option, Some, None, if◌then◌else◌, ◌==◌}
use Rattle.rv_seq.specs.declared.answer.StepAnswer.TheVariants.{Done}
use Rattle.rv_seq.specs.declared.commit.Commit.{Commit}
use Rattle.rv_seq.specs.declared.commit.Slot.TheVariants.{Absent, Now}
use Rattle.rv_seq.specs.declared.commit.Stop.TheVariants.{Ebreak}
use Rattle.rv_trace.specs.declared.row.Cell.{Cell}
use Rattle.rv_trace.specs.declared.row.Row.{Row}
use Rattle.port_laws.specs.Hands.{Hand, five_forwarding, addx, no_customs, no_block, none_own, quiet, puts_to, AreInputs, AreNotInputs, cell, none_flushed, row_with, long_row}

-- it goes from 0 to 12 and writes 4
abbrev pub link_record : Commit
link_record = record { at = 0; word = 12583663; rd_index = 5; rd = Now 4; custom = replicate 16 Absent; store = None; next = 12 }

-- jal x5, 12 (00c002ef); addx x3, x5, x0 (0002818b); addi x0, x0, 0 (00000013); ebreak (00100073)
abbrev pub linking : Hand
linking =
    record {
      shape = five_forwarding;
      registers = [];
      plans = addx ∷ [];
      number = λ word. if word == 164235 then Some 0 else None;
      asks = λ word. if word == 12583663 then puts_to 5 2 else if word == 164235 then puts_to 3 2 else quiet no_customs;
      answers = Done link_record ∷ [];
      blocks = λ p. no_block;
      own = none_own;
      loads = λ p. None;
    }

-- its cells
abbrev pub links : Option Cell
links = cell 0 0 12583663 None

abbrev pub adds : Option Cell
adds = cell 1 4 164235 None

abbrev pub idles : Option Cell
idles = cell 2 8 19 None

abbrev pub break : Option Cell
break = cell 3 12 1048691 None

-- its rows, the newest first
abbrev pub linking_rows : List Row
linking_rows =
    row_with (None ∷ None ∷ break ∷ None ∷ None ∷ []) None none_flushed None (Some Ebreak)
    ∷ long_row None break None None links (Some (0, link_record))
    ∷ long_row break None None links None None
    ∷ row_with (idles ∷ adds ∷ links ∷ None ∷ None ∷ []) None (Some 1 ∷ Some 2 ∷ replicate 3 None) (Some 12) None
    ∷ long_row adds links None None None None
    ∷ long_row links None None None None None
    ∷ []

-- addx: en1 and both operands, which are there in the row in which it is flushed
abbrev pub linking_inputs : List ℕ → List (List ℕ)
linking_inputs flushed = (0 ∷ 0 ∷ 0 ∷ []) ∷ (1 ∷ 0 ∷ 0 ∷ []) ∷ flushed ∷ (0 ∷ 0 ∷ 0 ∷ []) ∷ (1 ∷ 0 ∷ 0 ∷ []) ∷ (0 ∷ 0 ∷ 0 ∷ []) ∷ []

abbrev pub AreLinking : List (List ℕ) → Type 0
AreLinking cycles = AreInputs linking 0 addx linking_rows cycles

abbrev pub AreNotLinking : List (List ℕ) → Type 0
AreNotLinking cycles = AreNotInputs linking 0 addx linking_rows cycles

-- the first operand is what the jump writes, which leaves EX in that row
abbrev pub right : List (List ℕ)
right = linking_inputs (0 ∷ 4 ∷ 0 ∷ [])

-- it is that of the register file
abbrev pub of_file : List (List ℕ)
of_file = linking_inputs (0 ∷ 0 ∷ 0 ∷ [])

-- the flushed cell moves
abbrev pub flushed_moves : List (List ℕ)
flushed_moves = linking_inputs (1 ∷ 4 ∷ 0 ∷ [])
