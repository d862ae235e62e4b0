-- Two harts on the core of five stages: jumps that settle at EX and in the last stage, and turns for an operand and for a late jump (this project's choice).
use Rattle.std.specs.Prelude.{ℕ, List, [], ◌∷◌, replicate, Option, Some, None, Bool, false, ◌||◌, ◌==◌}
use Rattle.rv_asks.specs.declared.asks.Asks.{Asks}
use Rattle.rv_seq.specs.declared.commit.Stop.TheVariants.{Ebreak, Fetch}
use Rattle.rv_harts.specs.declared.row.BarrelCell.{BarrelCell}
use Rattle.rv_harts.specs.declared.row.BarrelRow.{BarrelRow}
use Rattle.rv_harts.specs.declared.row.Turn.{Turn}
use Rattle.rv_harts.specs.declared.row.Turn.TheVariants.{Operand, Late}
use Rattle.hart_laws.specs.Hands.{Hand, five as five_stages, cell, part_with, nothing, retiring, stopping, long_row, puts, goes}

-- jal x0, 8 (0080006f)
abbrev pub leap_word : ℕ
leap_word = 8388719

-- its cell, of this hart, with this serial at this address
abbrev pub leap : ℕ → ℕ → ℕ → Option Turn → Option BarrelCell
leap = cell leap_word

-- addi x0, x0, 0 (00000013)
abbrev pub idle_word : ℕ
idle_word = 19

-- its cell, of this hart, with this serial at this address
abbrev pub idle : ℕ → ℕ → ℕ → Option Turn → Option BarrelCell
idle = cell idle_word

-- addi x1, x0, 5 (00500093)
abbrev pub five_word : ℕ
five_word = 5243027

-- its cell, of this hart, with this serial at this address
abbrev pub five : ℕ → ℕ → ℕ → Option Turn → Option BarrelCell
five = cell five_word

-- add x2, x1, x1 (00108133)
abbrev pub twice_word : ℕ
twice_word = 1081651

-- its cell, of this hart, with this serial at this address
abbrev pub twice : ℕ → ℕ → ℕ → Option Turn → Option BarrelCell
twice = cell twice_word

-- ebreak (00100073)
abbrev pub break_word : ℕ
break_word = 1048691

-- its cell, of this hart, with this serial at this address
abbrev pub break : ℕ → ℕ → ℕ → Option Turn → Option BarrelCell
break = cell break_word

-- jal x0, 4 (0040006f)
abbrev pub step_word : ℕ
step_word = 4194415

-- its cell, of this hart, with this serial at this address
abbrev pub step : ℕ → ℕ → ℕ → Option Turn → Option BarrelCell
step = cell step_word

-- a jump over a word
abbrev pub leaping : List ℕ
leaping = leap_word ∷ idle_word ∷ five_word ∷ break_word ∷ []

-- a sum that reads what the word before it writes
abbrev pub doubling : List ℕ
doubling = five_word ∷ twice_word ∷ []

-- the jump flushes what is fetched behind it, and the sum is turned once
abbrev pub jumping_rows : List BarrelRow
jumping_rows =
    long_row (leap 0 0 0 None) None None None None nothing nothing
    ∷ long_row (five 1 0 0 None) (leap 0 0 0 None) None None None nothing nothing
    ∷ long_row (idle 0 1 4 None) (five 1 0 0 None) (leap 0 0 0 None) None None (part_with None None (1 ∷ []) (Some 8) None) nothing
    ∷ long_row (twice 1 1 4 None) None (five 1 0 0 None) (leap 0 0 0 None) None nothing nothing
    ∷ long_row (five 0 2 8 None) (twice 1 1 4 (Some (Operand 1 0))) None (five 1 0 0 None) (leap 0 0 0 None) (retiring 0 (goes 0 leap_word 8)) nothing
    ∷ long_row (twice 1 2 4 None) (five 0 2 8 None) None None (five 1 0 0 None) nothing (retiring 0 (puts 0 five_word 1 5))
    ∷ long_row (break 0 3 12 None) (twice 1 2 4 None) (five 0 2 8 None) None None nothing nothing
    ∷ long_row None (break 0 3 12 None) (twice 1 2 4 None) (five 0 2 8 None) None nothing nothing
    ∷ long_row None None (break 0 3 12 None) (twice 1 2 4 None) (five 0 2 8 None) (part_with (Some (2, puts 8 five_word 1 5)) None [] None (Some Ebreak)) nothing
    ∷ long_row None None None None (twice 1 2 4 None) nothing (retiring 2 (puts 4 twice_word 2 10))
    ∷ long_row None None None None None nothing nothing
    ∷ long_row None None None None None nothing (stopping Fetch)
    ∷ []

-- what is asked of an instruction of which nothing is asked but where it jumps
abbrev pub quiet : Bool → Asks
quiet late =
    record {
      first = 0;
      second = 0;
      destination = 0;
      x_time = 0;
      spawned = None;
      loads = false;
      stores = false;
      late = late;
      tail = 0;
      customs = replicate 16 false;
      late_customs = replicate 16 false;
      spawned_customs = replicate 16 false;
      unit = None;
    }

-- a core on which both jumps come late
abbrev pub late_jumps : Hand
late_jumps = record { shape = five_stages; asks = λ word. quiet ((word == leap_word) || (word == step_word)); units = [] }

-- a jump over a word to a stop
abbrev pub leaping_late : List ℕ
leaping_late = leap_word ∷ idle_word ∷ break_word ∷ []

-- a jump to the next word, a stop
abbrev pub stepping_late : List ℕ
stepping_late = step_word ∷ break_word ∷ []

-- the first jump flushes the cell at EX and the one behind it, which is not turned; the second one goes where the cell at EX stands, and that is turned
abbrev pub late_rows : List BarrelRow
late_rows =
    long_row (leap 0 0 0 None) None None None None nothing nothing
    ∷ long_row (step 1 0 0 None) (leap 0 0 0 None) None None None nothing nothing
    ∷ long_row (idle 0 1 4 None) (step 1 0 0 None) (leap 0 0 0 None) None None nothing nothing
    ∷ long_row (break 1 1 4 None) (idle 0 1 4 None) (step 1 0 0 None) (leap 0 0 0 None) None nothing nothing
    ∷ long_row (break 0 2 8 None) (break 1 1 4 None) (idle 0 1 4 None) (step 1 0 0 None) (leap 0 0 0 None) (part_with (Some (0, goes 0 leap_word 8)) None (1 ∷ 2 ∷ []) (Some 8) None) nothing
    ∷ long_row None None (break 1 1 4 (Some (Late 0))) None (step 1 0 0 None) nothing (retiring 0 (goes 0 step_word 4))
    ∷ long_row (break 0 3 8 None) None None None None nothing nothing
    ∷ long_row (break 1 2 4 None) (break 0 3 8 None) None None None nothing nothing
    ∷ long_row None (break 1 2 4 None) (break 0 3 8 None) None None (stopping Ebreak) nothing
    ∷ long_row None None (break 1 2 4 None) None None nothing (stopping Ebreak)
    ∷ []
