-- The run of the base set that adds five and seven, judged by what a core without an extension does: its rows, and rows that are not those of the run (this project's choice).
use Rattle.std.specs.Prelude.{ℕ, ◌+◌, List, [], ◌∷◌, replicate, Option, Some, None}
use Rattle.rv_asks.specs.declared.asks.Asks.{Asks}
use Rattle.rv_asks.specs.Asks.{asks_with, blank_outline}
use Rattle.rv_seq.specs.Decoding.{decoded_in}
use Rattle.rv_lawful.specs.Headline.{Agreeing}
use Rattle.rv_lawful.specs.Settings.{Setting, course_of}
use Rattle.rv_seq.specs.Bare.{bare}
use Rattle.rv_seq.specs.declared.commit.Commit.{Commit}
use Rattle.rv_seq.specs.declared.commit.Slot.TheVariants.{Absent, Now}
use Rattle.rv_seq.specs.declared.commit.Stop.{Stop}
use Rattle.rv_seq.specs.declared.commit.Stop.TheVariants.{Ebreak, Fetch}
use Rattle.rv_trace.specs.declared.row.Cell.{Cell}
use Rattle.rv_trace.specs.declared.row.Hold.{Hold}
use Rattle.rv_trace.specs.declared.row.Hold.TheVariants.{Operand, Behind}
use Rattle.rv_trace.specs.declared.row.Row.{Row}
use Rattle.row_laws.specs.Hands.{Hand, by_hand, no_values, no_jump, three, cell, none_flushed, row_with, row_of}

-- addi x1, x0, 5 (00500093); addi x2, x0, 7 (00700113); add x3, x1, x2 (002081b3); ebreak (00100073)
abbrev pub adding_image : List ℕ
adding_image = 5243027 ∷ 7340307 ∷ 2130355 ∷ 1048691 ∷ []

-- what is asked of a word where there is no extension
abbrev pub adding_asks : ℕ → Asks
adding_asks word = asks_with three [] (λ n. None) (blank_outline three []) word (decoded_in bare word)

-- the run of the image, with its words
abbrev pub adding_hand : Hand
adding_hand = record { image = adding_image; course = course_of bare adding_image None; asks = adding_asks; units = []; initial = no_values; jump = no_jump }

-- what its rows are judged against
abbrev pub adding : Setting
adding = by_hand adding_hand

-- what an instruction at an address writes to an x register
abbrev pub writes : ℕ → ℕ → ℕ → ℕ → Commit
writes at word rd value = record { at = at; word = word; rd_index = rd; rd = Now value; custom = replicate 16 Absent; store = None; next = at + 4 }

-- the instruction that writes five
abbrev pub five : Cell
five = cell 0 0 5243027 None

-- the one that writes seven
abbrev pub seven : Cell
seven = cell 1 4 7340307 None

-- the one that adds them
abbrev pub sum : Option Hold → Cell
sum hold = cell 2 8 2130355 hold

-- the one that stops the run
abbrev pub break : Option Hold → Cell
break hold = cell 3 12 1048691 hold

-- the first one is fetched
abbrev pub row_0 : Row
row_0 = row_of (Some five) None None None

-- it leaves EX
abbrev pub row_1 : Row
row_1 = row_of (Some seven) (Some five) None None

-- the third row, in which the five is written, or another value
abbrev pub third_row : ℕ → Row
third_row value = row_of (Some (sum None)) (Some seven) (Some five) (Some (0, writes 0 5243027 1 value))

-- it retires
abbrev pub row_2 : Row
row_2 = third_row 5

-- the second one retires, and the third waits for it
abbrev pub row_3 : Row
row_3 = row_of (Some (break (Some Behind))) (Some (sum (Some (Operand 2 1)))) (Some seven) (Some (1, writes 4 7340307 2 7))

-- the third one leaves EX
abbrev pub row_4 : Row
row_4 = row_of (Some (break None)) (Some (sum None)) None None

-- the third one retires, with this stop
abbrev pub last_row : Option Stop → Row
last_row stop = row_with None (Some (break None)) (Some (sum None)) (Some (2, writes 8 2130355 3 12)) none_flushed None stop

-- the run stops
abbrev pub row_5 : Row
row_5 = last_row (Some Ebreak)

-- the first rows, the newest first
abbrev pub two_rows : List Row
two_rows = row_1 ∷ row_0 ∷ []

-- all but the last one
abbrev pub five_rows : List Row
five_rows = row_4 ∷ row_3 ∷ row_2 ∷ two_rows

-- its rows, the newest first
abbrev pub adding_rows : List Row
adding_rows = row_5 ∷ five_rows

-- what the rows retire is not the run's, nor are their states and stop
abbrev pub IsOther : List Row → Type 0
IsOther rows = Agreeing bare (λ places. adding) rows → ⊥

-- a write of a wrong value
abbrev pub wrong_value : List Row
wrong_value = third_row 6 ∷ two_rows

-- an instruction that is retired before the one in front of it
abbrev pub wrong_order : List Row
wrong_order = row_of (Some (sum None)) (Some five) (Some seven) (Some (1, writes 4 7340307 2 7)) ∷ two_rows

-- a stop for another cause
abbrev pub other_stop : List Row
other_stop = last_row (Some Fetch) ∷ five_rows
