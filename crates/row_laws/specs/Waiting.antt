-- A store and a load of the same word behind it, on the core of five stages, over a memory in which the store waits, and over one in which the load does. And rows that no
-- such core may show (this project's choice).
use Rattle.std.specs.Prelude.{ℕ, List, [], ◌∷◌, replicate, Option, Some, None}
use Rattle.std.proofs.Common.{lit<, lit≤, refl}
use Rattle.rv_lawful.specs.Headline.{Agreeing}
use Rattle.rv_lawful.specs.LawfulTrace.{Lawful}
use Rattle.rv_lawful.specs.Settings.{Setting, course_of}
use Rattle.rv_seq.specs.Bare.{bare}
use Rattle.rv_seq.specs.declared.commit.Commit.{Commit}
use Rattle.rv_seq.specs.declared.commit.Slot.TheVariants.{Absent}
use Rattle.rv_seq.specs.declared.commit.Stop.{Stop}
use Rattle.rv_seq.specs.declared.commit.Stop.TheVariants.{Ebreak}
use Rattle.rv_trace.specs.declared.row.Cell.{Cell}
use Rattle.rv_trace.specs.declared.row.Hold.{Hold}
use Rattle.rv_trace.specs.declared.row.Hold.TheVariants.{Operand, Drain, Wait, StoreAhead, Behind}
use Rattle.rv_trace.specs.declared.row.Row.{Row}
use Rattle.row_laws.specs.Adding.{writes}
use Rattle.row_laws.specs.Forwarding.{asks_on}
use Rattle.row_laws.specs.Hands.{Hand, over_memory, five, no_values, no_jump, cell, long_row}

-- lui x1, 80000 (800000b7); sw x1, 0(x1) (0010a023); lw x2, 0(x1) (0000a103); ebreak (00100073)
abbrev pub storing_image : List ℕ
storing_image = 2147483831 ∷ 1089571 ∷ 41219 ∷ 1048691 ∷ []

-- the run of the image
abbrev pub storing_hand : Hand
storing_hand = record { image = storing_image; course = course_of bare storing_image None; asks = asks_on five; units = []; initial = no_values; jump = no_jump }

-- what its rows are judged against over a memory with these waits
abbrev pub storing_over : List ℕ → Setting
storing_over waits = over_memory waits five storing_hand

-- the instruction that writes the address
abbrev pub address : Cell
address = cell 0 0 2147483831 None

-- the store
abbrev pub store : Option Hold → Cell
store hold = cell 1 4 1089571 hold

-- the load
abbrev pub load : Option Hold → Cell
load hold = cell 2 8 41219 hold

-- the one that stops the run
abbrev pub break : Option Hold → Cell
break hold = cell 3 12 1048691 hold

-- what the store writes to the first word of the memory
abbrev pub stores : Commit
stores =
    record {
      at = 4;
      word = 1089571;
      rd_index = 0;
      rd = Absent;
      custom = replicate 16 Absent;
      store = Some (record { at = 2147483648; bytes = 4; some = lit< tt; few = lit≤ tt; divides_four = refl }, 2147483648);
      next = 8;
    }

-- The first rows, over any memory

-- the address is fetched
abbrev pub row_0 : Row
row_0 = long_row (Some address) None None None None None None

-- it leaves RD
abbrev pub row_1 : Row
row_1 = long_row (Some (store None)) (Some address) None None None None None

-- a row in which the store waits at RD for the address, with the cells of the stages above, and what it retires
abbrev pub reading_row : Option Cell → Option Cell → Option Cell → Option (ℕ × Commit) → Row
reading_row ex mem last retired = long_row (Some (load (Some Behind))) (Some (store (Some (Operand 1 0)))) ex mem last retired None

-- the address leaves EX, and the store waits for it
abbrev pub row_2 : Row
row_2 = reading_row (Some address) None None None

-- it leaves MEM
abbrev pub row_3 : Row
row_3 = reading_row None (Some address) None None

-- it retires
abbrev pub row_4 : Row
row_4 = reading_row None None (Some address) (Some (0, writes 0 2147483831 1 2147483648))

-- the store leaves RD
abbrev pub row_5 : Row
row_5 = long_row (Some (load None)) (Some (store None)) None None None None None

-- it leaves EX
abbrev pub row_6 : Row
row_6 = long_row (Some (break None)) (Some (load None)) (Some (store None)) None None None None

-- these rows, the newest first
abbrev pub five_rows : List Row
five_rows = row_4 ∷ row_3 ∷ row_2 ∷ row_1 ∷ row_0 ∷ []

-- and the next ones
abbrev pub seven_rows : List Row
seven_rows = row_6 ∷ row_5 ∷ five_rows

-- Rows of both runs

-- the store leaves MEM
abbrev pub stored : Row
stored = long_row None (Some (break None)) (Some (load None)) (Some (store None)) None None None

-- the store retires, what is to stop the run and the load show these holds, and the row has this stop
abbrev pub behind_store : Option Hold → Option Hold → Option Stop → Row
behind_store ex mem stop = long_row None None (Some (break ex)) (Some (load mem)) (Some (store None)) (Some (1, stores)) stop

-- the load stands in MEM, with nothing above it, and the two show these holds
abbrev pub alone : Option Hold → Option Hold → Option Stop → Row
alone ex mem stop = long_row None None (Some (break ex)) (Some (load mem)) None None stop

-- it leaves MEM
abbrev pub loaded : Row
loaded = alone (Some (Drain 2)) None None

-- it retires with this value, and the run stops
abbrev pub stopping_row : ℕ → Row
stopping_row value = long_row None None (Some (break None)) None (Some (load None)) (Some (2, writes 8 41219 2 value)) (Some Ebreak)

-- the value that the store wrote
abbrev pub last_row : Row
last_row = stopping_row 2147483648

-- Where the store waits for two rows

-- what its rows are judged against
abbrev pub slow_store : Setting
slow_store = storing_over (2 ∷ [])

-- the store stands in MEM with this hold, and what is behind it waits
abbrev pub storing_row : Option Hold → Row
storing_row hold = long_row None (Some (break (Some Behind))) (Some (load (Some Behind))) (Some (store hold)) None None None

-- it is to wait for two rows
abbrev pub store_7 : Row
store_7 = storing_row (Some (Wait 2))

-- for one more
abbrev pub store_8 : Row
store_8 = storing_row (Some (Wait 1))

-- the store retires; the load, which does not wait, is not to pass it
abbrev pub store_10 : Row
store_10 = behind_store (Some (Drain 2)) (Some (StoreAhead 1)) None

-- the rows in which the store waits, and those before, the newest first
abbrev pub store_nine : List Row
store_nine = store_8 ∷ store_7 ∷ seven_rows

-- and the one in which it leaves MEM
abbrev pub store_ten : List Row
store_ten = stored ∷ store_nine

-- all but the last one
abbrev pub store_twelve : List Row
store_twelve = loaded ∷ store_10 ∷ store_ten

-- its rows, the newest first
abbrev pub slow_store_rows : List Row
slow_store_rows = last_row ∷ store_twelve

-- what the rows retire is not the run's, nor are their states and stop
abbrev pub IsOther : List Row → Type 0
IsOther rows = Agreeing bare (λ places. slow_store) rows → ⊥

-- the load reads what was there before the store
abbrev pub old_value : List Row
old_value = stopping_row 0 ∷ store_twelve

-- the rows are not lawful
abbrev pub IsUnlawfulStore : List Row → Type 0
IsUnlawfulStore rows = Lawful (λ places. slow_store) rows → ⊥

-- Wait counts one too few
abbrev pub wait_one_less : List Row
wait_one_less = storing_row (Some (Wait 1)) ∷ seven_rows

-- it counts one too many
abbrev pub wait_one_more : List Row
wait_one_more = storing_row (Some (Wait 3)) ∷ seven_rows

-- it does not count down
abbrev pub wait_stands_still : List Row
wait_stands_still = storing_row (Some (Wait 2)) ∷ store_7 ∷ seven_rows

-- the store does not wait
abbrev pub wait_left_out : List Row
wait_left_out = stored ∷ seven_rows

-- it waits for one row more
abbrev pub waits_longer : List Row
waits_longer = storing_row (Some (Wait 1)) ∷ store_nine

-- the load passes the store
abbrev pub load_passes : List Row
load_passes = behind_store (Some (Drain 2)) None None ∷ store_ten

-- StoreAhead names what is no store
abbrev pub ahead_of_another : List Row
ahead_of_another = behind_store (Some (Drain 2)) (Some (StoreAhead 0)) None ∷ store_ten

-- the load waits for the store once more, which has retired
abbrev pub ahead_longer : List Row
ahead_longer = alone (Some (Drain 2)) (Some (StoreAhead 1)) None ∷ store_10 ∷ store_ten

-- what is to stop the run goes on beside the load
abbrev pub drain_left_out : List Row
drain_left_out = behind_store None (Some (StoreAhead 1)) None ∷ store_ten

-- it shows that it stands behind the load alone
abbrev pub behind_alone : List Row
behind_alone = behind_store (Some Behind) (Some (StoreAhead 1)) None ∷ store_ten

-- it waits for the store, which retires in the row
abbrev pub drains_retired : List Row
drains_retired = behind_store (Some (Drain 1)) (Some (StoreAhead 1)) None ∷ store_ten

-- it stops the run before the load retires
abbrev pub stops_early : List Row
stops_early = behind_store None (Some (StoreAhead 1)) (Some Ebreak) ∷ store_ten

-- Where the load waits for two rows

-- what its rows are judged against
abbrev pub slow_load : Setting
slow_load = storing_over (0 ∷ 2 ∷ [])

-- the store retires, and the load is to wait for two rows, which comes before StoreAhead
abbrev pub load_8 : Row
load_8 = behind_store (Some (Drain 2)) (Some (Wait 2)) None

-- for one more
abbrev pub load_9 : Row
load_9 = alone (Some (Drain 2)) (Some (Wait 1)) None

-- the row in which the store leaves MEM, and those before, the newest first
abbrev pub load_eight : List Row
load_eight = stored ∷ seven_rows

-- its rows, the newest first
abbrev pub slow_load_rows : List Row
slow_load_rows = last_row ∷ loaded ∷ load_9 ∷ load_8 ∷ load_eight

-- the rows are not lawful
abbrev pub IsUnlawfulLoad : List Row → Type 0
IsUnlawfulLoad rows = Lawful (λ places. slow_load) rows → ⊥

-- the store waits, for as many rows as the load is to
abbrev pub store_waits : List Row
store_waits = store_7 ∷ seven_rows

-- StoreAhead is shown in place of Wait
abbrev pub ahead_before_wait : List Row
ahead_before_wait = behind_store (Some (Drain 2)) (Some (StoreAhead 1)) None ∷ load_eight

-- the load waits for one row alone
abbrev pub waits_once : List Row
waits_once = loaded ∷ load_8 ∷ load_eight

-- the run stops while the load waits
abbrev pub stops_beside : List Row
stops_beside = alone None (Some (Wait 1)) (Some Ebreak) ∷ load_8 ∷ load_eight
