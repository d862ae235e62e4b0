-- A run whose first instruction is Tight and writes a custom register behind EX: its rows have the holds Tail, Custom, Operand and Behind. And rows that no pipeline
-- may show (this project's choice).
use Rattle.std.specs.Prelude.{ℕ, zero, suc, ◌*◌, List, [], ◌∷◌, replicate, Option, Some, None, Bool, true, false, if◌then◌else◌, ◌==◌}
use Rattle.std.proofs.Common.{lit<, lit≤}
use Rattle.ix_bits.specs.declared.number.Bits.{Bits}
use Rattle.rv_asks.specs.declared.asks.Asks.{Asks}
use Rattle.rv_lawful.specs.LawfulTrace.{Lawful}
use Rattle.rv_lawful.specs.Settings.{Setting}
use Rattle.rv_seq.specs.declared.answer.StepAnswer.{StepAnswer}
use Rattle.rv_seq.specs.declared.answer.StepAnswer.TheVariants.{Done, Stopped}
use Rattle.rv_seq.specs.declared.commit.Commit.{Commit}
use Rattle.rv_seq.specs.declared.commit.Slot.TheVariants.{Absent, Now}
use Rattle.rv_seq.specs.declared.commit.Stop.{Stop}
use Rattle.rv_seq.specs.declared.commit.Stop.TheVariants.{Ebreak}
use Rattle.rv_trace.specs.declared.row.Cell.{Cell}
use Rattle.rv_trace.specs.declared.row.Hold.{Hold}
use Rattle.rv_trace.specs.declared.row.Hold.TheVariants.{Operand, Custom, Tail, Behind, Trap}
use Rattle.rv_trace.specs.declared.row.Row.{Row}
use Rattle.row_laws.specs.Hands.{Hand, by_hand, no_values, no_jump, no_blocks, none_own, quiet, no_customs, going, cell, none_flushed, row_with, row_of}

-- custom register 0
abbrev pub register_0 : List Bool
register_0 = true ∷ replicate 15 false

-- what is asked of four instructions: the first writes custom register 0 late, in two more cycles in the last stage (0000000b); the next one reads it and writes x2 (0000012b); the third
-- reads x2 (0001002b); and ebreak (00100073)
abbrev pub holding_asks : ℕ → Asks
holding_asks word =
    if word == 11 then
    record { first = 0; second = 0; destination = 0; x_time = 0; spawned = None; loads = false; stores = false; late = false; tail = 2; customs = register_0; late_customs = register_0; spawned_customs = no_customs; unit = None }
    else if word == 299 then
    record { first = 0; second = 0; destination = 2; x_time = 1; spawned = None; loads = false; stores = false; late = false; tail = 0; customs = register_0; late_customs = no_customs; spawned_customs = no_customs; unit = None }
    else if word == 65579 then
    record { first = 2; second = 0; destination = 0; x_time = 0; spawned = None; loads = false; stores = false; late = false; tail = 0; customs = no_customs; late_customs = no_customs; spawned_customs = no_customs; unit = None }
    else quiet

-- a value of custom register 0
abbrev pub given : Bits
given = record { raw = 5; width = 8; some_width = lit≤ tt; most_width = lit≤ tt; in_width = lit< tt }

-- the writer writes it
abbrev pub writing : Commit
writing = record { at = 0; word = 11; rd_index = 0; rd = Absent; custom = Now given ∷ replicate 15 Absent; store = None; next = 4 }

-- the reader writes what it read to x2
abbrev pub reading : Commit
reading = record { at = 4; word = 299; rd_index = 2; rd = Now 5; custom = replicate 16 Absent; store = None; next = 8 }

-- each goes on to the next one, and the fourth stops
abbrev pub holding_answer : ℕ → StepAnswer
holding_answer zero = Done writing
holding_answer (suc zero) = Done reading
holding_answer (suc (suc zero)) = Done (going 8 65579 12)
holding_answer (suc (suc (suc p))) = Stopped Ebreak

-- the run, with its words
abbrev pub holding_hand : Hand
holding_hand = record { image = 11 ∷ 299 ∷ 65579 ∷ 1048691 ∷ []; course = record { answer = holding_answer; pc = λ p. 4 * p; enabled = λ p. false; accesses = λ p. false; blocks = no_blocks; own = none_own }; asks = holding_asks; units = []; initial = no_values; jump = no_jump }

-- what its rows are judged against
abbrev pub holding : Setting
holding = by_hand holding_hand

-- the instruction that writes custom register 0
abbrev pub writer : Option Hold → Cell
writer hold = cell 0 0 11 hold

-- the one that reads it
abbrev pub reader : Option Hold → Cell
reader hold = cell 1 4 299 hold

-- the one that reads x2
abbrev pub sum : Option Hold → Cell
sum hold = cell 2 8 65579 hold

-- the one that stops the run
abbrev pub break : Option Hold → Cell
break hold = cell 3 12 1048691 hold

-- the writer is fetched
abbrev pub row_0 : Row
row_0 = row_of (Some (writer None)) None None None

-- it leaves EX
abbrev pub row_1 : Row
row_1 = row_of (Some (reader None)) (Some (writer None)) None None

-- a row in which the writer goes on in the last stage, and the reader waits for it
abbrev pub held_row : Hold → Row
held_row tail = row_of (Some (sum (Some Behind))) (Some (reader (Some (Custom 0 0)))) (Some (writer (Some tail))) None

-- it goes on in the last stage
abbrev pub row_2 : Row
row_2 = held_row (Tail 2)

-- and once more
abbrev pub row_3 : Row
row_3 = held_row (Tail 1)

-- the writer retires, and the reader waits for it still
abbrev pub row_4 : Row
row_4 = row_of (Some (sum (Some Behind))) (Some (reader (Some (Custom 0 0)))) (Some (writer None)) (Some (0, writing))

-- the reader leaves EX
abbrev pub row_5 : Row
row_5 = row_of (Some (sum None)) (Some (reader None)) None None

-- it retires, and the third instruction waits for it
abbrev pub row_6 : Row
row_6 = row_of (Some (break (Some Behind))) (Some (sum (Some (Operand 2 1)))) (Some (reader None)) (Some (1, reading))

-- the third instruction leaves EX
abbrev pub row_7 : Row
row_7 = row_of (Some (break None)) (Some (sum None)) None None

-- it retires, with this stop
abbrev pub last_row : Option Stop → Row
last_row stop = row_with None (Some (break None)) (Some (sum None)) (Some (2, going 8 65579 12)) none_flushed None stop

-- the run stops
abbrev pub row_8 : Row
row_8 = last_row (Some Ebreak)

-- the first rows, the newest first
abbrev pub two_rows : List Row
two_rows = row_1 ∷ row_0 ∷ []

-- the rows up to the retirement of the writer
abbrev pub five_rows : List Row
five_rows = row_4 ∷ row_3 ∷ row_2 ∷ two_rows

-- all but the last one
abbrev pub eight_rows : List Row
eight_rows = row_7 ∷ row_6 ∷ row_5 ∷ five_rows

-- its rows, the newest first
abbrev pub holding_rows : List Row
holding_rows = row_8 ∷ eight_rows

-- the rows are not lawful
abbrev pub IsUnlawful : List Row → Type 0
IsUnlawful rows = Lawful (λ places. holding) rows → ⊥

-- a hold that is not true: the reader waits for the writer, which retired in the row before
abbrev pub untrue_hold : List Row
untrue_hold = row_of (Some (sum (Some Behind))) (Some (reader (Some (Custom 0 0)))) None None ∷ five_rows

-- a later hold in place of the first: the reader shows that the next stage is taken
abbrev pub later_hold : List Row
later_hold = row_of (Some (sum (Some Behind))) (Some (reader (Some Behind))) (Some (writer (Some (Tail 2)))) None ∷ two_rows

-- Tail is counted one more
abbrev pub tail_one_more : List Row
tail_one_more = held_row (Tail 3) ∷ two_rows

-- Tail is counted one less
abbrev pub tail_one_less : List Row
tail_one_less = held_row (Tail 1) ∷ two_rows

-- the writer retires before its module is done
abbrev pub tail_left_out : List Row
tail_left_out = row_4 ∷ two_rows

-- the reader goes on before the writer has retired
abbrev pub custom_left_out : List Row
custom_left_out = row_of (Some (sum None)) (Some (reader None)) (Some (writer (Some (Tail 2)))) None ∷ two_rows

-- a cell that idles: the sum stays in stage 0, though it has no hold
abbrev pub idle_cell : List Row
idle_cell = row_of (Some (sum None)) None (Some (reader None)) (Some (1, reading)) ∷ row_5 ∷ five_rows

-- a fetch that skips a word
abbrev pub skipped_word : List Row
skipped_word = row_of (Some (cell 1 8 65579 None)) (Some (writer None)) None None ∷ row_0 ∷ []

-- a stop where there is none
abbrev pub wrong_stop : List Row
wrong_stop = row_with (Some (reader None)) (Some (writer None)) None None none_flushed None (Some Ebreak) ∷ row_0 ∷ []

-- no stop where the run stops
abbrev pub missing_stop : List Row
missing_stop = last_row None ∷ eight_rows

-- a row behind the stop
abbrev pub after_stop : List Row
after_stop = row_of None None (Some (break None)) None ∷ holding_rows

-- a cell behind the last stage
abbrev pub cell_behind : List Row
cell_behind =
    record {
      cells = Some (writer None) ∷ None ∷ None ∷ Some (writer None) ∷ None ∷ [];
      retired = None;
      written = None;
      flushed = none_flushed;
      redirect = None;
      taken = None;
      stop = None;
    }
    ∷ []

-- the reader shows Trap, without an interrupt line
abbrev pub untrue_trap : List Row
untrue_trap = row_of (Some (sum (Some Behind))) (Some (reader (Some Trap))) (Some (writer (Some (Tail 2)))) None ∷ two_rows

-- an interrupt is taken, without an interrupt line
abbrev pub taken_unasked : List Row
taken_unasked =
    record {
      cells = Some (writer None) ∷ None ∷ None ∷ None ∷ None ∷ [];
      retired = None;
      written = None;
      flushed = none_flushed;
      redirect = None;
      taken = Some 0;
      stop = None;
    }
    ∷ []
