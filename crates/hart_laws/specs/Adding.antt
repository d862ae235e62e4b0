-- A hart that adds five and seven on the core of three stages, beside one with an empty image, and beside one that stops at once (this project's choice).
use Rattle.std.specs.Prelude.{ℕ, List, [], ◌∷◌, Option, None}
use Rattle.rv_seq.specs.declared.commit.Stop.TheVariants.{Ebreak, Fetch}
use Rattle.rv_harts.specs.declared.row.BarrelCell.{BarrelCell}
use Rattle.rv_harts.specs.declared.row.BarrelRow.{BarrelRow}
use Rattle.rv_harts.specs.declared.row.Turn.{Turn}
use Rattle.hart_laws.specs.Hands.{cell, nothing, retiring, stopping, short_row, puts}

-- addi x1, x0, 5 (00500093)
abbrev pub five_word : ℕ
five_word = 5243027

-- its cell, of this hart, with this serial at this address
abbrev pub five : ℕ → ℕ → ℕ → Option Turn → Option BarrelCell
five = cell five_word

-- addi x2, x0, 7 (00700113)
abbrev pub seven_word : ℕ
seven_word = 7340307

-- its cell, of this hart, with this serial at this address
abbrev pub seven : ℕ → ℕ → ℕ → Option Turn → Option BarrelCell
seven = cell seven_word

-- add x3, x1, x2 (002081b3)
abbrev pub sum_word : ℕ
sum_word = 2130355

-- its cell, of this hart, with this serial at this address
abbrev pub sum : ℕ → ℕ → ℕ → Option Turn → Option BarrelCell
sum = cell sum_word

-- ebreak (00100073)
abbrev pub break_word : ℕ
break_word = 1048691

-- its cell, of this hart, with this serial at this address
abbrev pub break : ℕ → ℕ → ℕ → Option Turn → Option BarrelCell
break = cell break_word

-- adds five and seven
abbrev pub adding : List ℕ
adding = five_word ∷ seven_word ∷ sum_word ∷ break_word ∷ []

-- no word
abbrev pub empty : List ℕ
empty = []

-- the other one stops in row 1, in which it fetches nothing
abbrev pub rows_beside_empty : List BarrelRow
rows_beside_empty =
    short_row (five 0 0 0 None) None None nothing nothing
    ∷ short_row None (five 0 0 0 None) None nothing (stopping Fetch)
    ∷ short_row (seven 0 1 4 None) None (five 0 0 0 None) (retiring 0 (puts 0 five_word 1 5)) nothing
    ∷ short_row None (seven 0 1 4 None) None nothing nothing
    ∷ short_row (sum 0 2 8 None) None (seven 0 1 4 None) (retiring 1 (puts 4 seven_word 2 7)) nothing
    ∷ short_row None (sum 0 2 8 None) None nothing nothing
    ∷ short_row (break 0 3 12 None) None (sum 0 2 8 None) (retiring 2 (puts 8 sum_word 3 12)) nothing
    ∷ short_row None (break 0 3 12 None) None (stopping Ebreak) nothing
    ∷ []

-- a stop alone
abbrev pub breaking : List ℕ
breaking = break_word ∷ []

-- the other one fetches the stop in row 1 and stops in row 2; the first one is as it was
abbrev pub rows_beside_break : List BarrelRow
rows_beside_break =
    short_row (five 0 0 0 None) None None nothing nothing
    ∷ short_row (break 1 0 0 None) (five 0 0 0 None) None nothing nothing
    ∷ short_row (seven 0 1 4 None) (break 1 0 0 None) (five 0 0 0 None) (retiring 0 (puts 0 five_word 1 5)) (stopping Ebreak)
    ∷ short_row None (seven 0 1 4 None) None nothing nothing
    ∷ short_row (sum 0 2 8 None) None (seven 0 1 4 None) (retiring 1 (puts 4 seven_word 2 7)) nothing
    ∷ short_row None (sum 0 2 8 None) None nothing nothing
    ∷ short_row (break 0 3 12 None) None (sum 0 2 8 None) (retiring 2 (puts 8 sum_word 3 12)) nothing
    ∷ short_row None (break 0 3 12 None) None (stopping Ebreak) nothing
    ∷ []
