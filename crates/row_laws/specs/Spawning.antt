-- Three runs of the base set on a core that takes some of its instructions as decoupled, so that their writes come later: writes out of order, a conflict at the port of
-- the register file, and a unit that is frozen. And rows that no pipeline may show (SCAIE-V, decoupled execution; which unit writes is this project's choice).
use Rattle.std.specs.Prelude.{◌≡◌, ℕ, ◌+◌, List, [], ◌∷◌, replicate, slice_index, Option, Some, None, false, if◌then◌else◌, ◌==◌}
use Rattle.ix_plan.specs.Units.{Slots}
use Rattle.rv_asks.specs.declared.asks.Asks.{Asks}
use Rattle.rv_lawful.specs.Headline.{Agreeing}
use Rattle.rv_lawful.specs.LawfulTrace.{Lawful}
use Rattle.rv_lawful.specs.Outstanding.{Written, outstanding_targets, architecture, applied_state}
use Rattle.rv_lawful.specs.Settings.{Setting, course_of}
use Rattle.rv_seq.specs.Bare.{bare}
use Rattle.rv_seq.specs.declared.commit.Commit.{Commit}
use Rattle.rv_seq.specs.declared.commit.Slot.{Slot}
use Rattle.rv_seq.specs.declared.commit.Slot.TheVariants.{Absent, Now, Later}
use Rattle.rv_seq.specs.declared.commit.Stop.{Stop}
use Rattle.rv_seq.specs.declared.commit.Stop.TheVariants.{Ebreak, Fetch}
use Rattle.ix_plan.specs.declared.design.Target.TheVariants.{X}
use Rattle.rv_trace.specs.declared.row.Cell.{Cell}
use Rattle.rv_trace.specs.declared.row.Hold.{Hold}
use Rattle.rv_trace.specs.declared.row.Hold.TheVariants.{Board, Drain, UnitFull, Port, Behind}
use Rattle.rv_trace.specs.declared.row.Row.{Row}
use Rattle.row_laws.specs.Hands.{Hand, by_hand, no_values, no_jump, no_customs, cell, none_flushed}

-- Words

-- an instruction that reads these registers, writes that one in its own body and this one by `spawn`, in this unit
abbrev pub asked : ℕ → ℕ → ℕ → Option ℕ → Option ℕ → Asks
asked first second destination spawned unit =
    record {
      first = first;
      second = second;
      destination = destination;
      x_time = 1;
      spawned = spawned;
      loads = false;
      stores = false;
      late = false;
      tail = 0;
      customs = no_customs;
      late_customs = no_customs;
      spawned_customs = no_customs;
      unit = unit;
    }

-- the spawn target of each word: addi x5, x0, 3 (00300293), addi x6, x0, 4 (00400313) and addi x8, x0, 6 (00600413) write by `spawn`, and so does fence (0000000f), which is
-- taken as an instruction whose write of x9 has a false condition
abbrev pub target_of : ℕ → Option ℕ
target_of word = if word == 3146387 then Some 5 else if word == 4195091 then Some 6 else if word == 6292499 then Some 8 else if word == 15 then Some 9 else None

-- the unit of each word: the first of these has unit 0, the others have unit 1
abbrev pub unit_of : ℕ → Option ℕ
unit_of word = if word == 3146387 then Some 0 else if word == 4195091 then Some 1 else if word == 6292499 then Some 1 else if word == 15 then Some 1 else None

-- the first operand of each word: add x7, x5, x6 (006283b3) reads x5
abbrev pub first_of : ℕ → ℕ
first_of word = if word == 6456243 then 5 else 0

-- the second operand of each word: it reads x6 too
abbrev pub second_of : ℕ → ℕ
second_of word = if word == 6456243 then 6 else 0

-- the register that each word writes in its own body: it and addi x7, x0, 5 (00500393) write x7
abbrev pub destination_of : ℕ → ℕ
destination_of word = if word == 6456243 then 7 else if word == 5243795 then 7 else 0

-- what is asked of each word
abbrev pub spawning_asks : ℕ → Asks
spawning_asks word = asked (first_of word) (second_of word) (destination_of word) (target_of word) (unit_of word)

-- two units with so many times, in which nothing stands
abbrev pub two_units : ℕ → ℕ → List Slots
two_units m n = replicate m None ∷ replicate n None ∷ []

-- a run of an image of the base set with these units
abbrev pub spawning_hand : List ℕ → List Slots → Hand
spawning_hand image units = record { image = image; course = course_of bare image None; asks = spawning_asks; units = units; initial = no_values; jump = no_jump }

-- Rows

-- an instruction at an address with what it writes to this x register
abbrev pub record_of : ℕ → ℕ → ℕ → Slot ℕ → Commit
record_of at word rd slot = record { at = at; word = word; rd_index = rd; rd = slot; custom = replicate 16 Absent; store = None; next = at + 4 }

-- a unit writes this value of a serial to an x register
abbrev pub write_of : ℕ → ℕ → Slot ℕ → Written
write_of serial rd slot = (serial, rd, slot, replicate 16 Absent)

-- a row with the cells of three stages, what it retires, what a unit writes in it, and its stop
abbrev pub full_row : Option Cell → Option Cell → Option Cell → Option (ℕ × Commit) → Option Written → Option Stop → Row
full_row a b c retired written stop =
    record {
      cells = a ∷ b ∷ c ∷ None ∷ None ∷ [];
      retired = retired;
      written = written;
      flushed = none_flushed;
      redirect = None;
      taken = None;
      stop = stop;
    }

-- addi x5, x0, 3
abbrev pub slow : ℕ → ℕ → Option Hold → Cell
slow serial at hold = cell serial at 3146387 hold

-- addi x6, x0, 4
abbrev pub quick : ℕ → ℕ → Option Hold → Cell
quick serial at hold = cell serial at 4195091 hold

-- addi x8, x0, 6
abbrev pub brisk : ℕ → ℕ → Option Hold → Cell
brisk serial at hold = cell serial at 6292499 hold

-- fence
abbrev pub hollow : ℕ → ℕ → Option Hold → Cell
hollow serial at hold = cell serial at 15 hold

-- add x7, x5, x6
abbrev pub sum : ℕ → ℕ → Option Hold → Cell
sum serial at hold = cell serial at 6456243 hold

-- addi x7, x0, 5
abbrev pub native : ℕ → ℕ → Option Hold → Cell
native serial at hold = cell serial at 5243795 hold

-- ebreak
abbrev pub break : ℕ → ℕ → Option Hold → Cell
break serial at hold = cell serial at 1048691 hold

-- Out of order: x5 comes from a unit with three times, x6 from one with one time, and the younger write comes first

-- slow, quick, sum, ebreak
abbrev pub passing_hand : Hand
passing_hand = spawning_hand (3146387 ∷ 4195091 ∷ 6456243 ∷ 1048691 ∷ []) (two_units 3 1)

-- what its rows are judged against
abbrev pub passing : Setting
passing = by_hand passing_hand

-- the slow one is fetched
abbrev pub passing_0 : Row
passing_0 = full_row (Some (slow 0 0 None)) None None None None None

-- it leaves EX
abbrev pub passing_1 : Row
passing_1 = full_row (Some (quick 1 4 None)) (Some (slow 0 0 None)) None None None None

-- it retires, and its write comes later
abbrev pub passing_2 : Row
passing_2 = full_row (Some (sum 2 8 None)) (Some (quick 1 4 None)) (Some (slow 0 0 None)) (Some (0, record_of 0 3146387 5 Later)) None None

-- the sum waits with this hold
abbrev pub waiting_row : Hold → Option Cell → Option (ℕ × Commit) → Option Written → Row
waiting_row hold last retired written = full_row (Some (break 3 12 (Some Behind))) (Some (sum 2 8 (Some hold))) last retired written None

-- what the quick one retires
abbrev pub quick_record : ℕ × Commit
quick_record = (1, record_of 4 4195091 6 Later)

-- the row in which the quick one retires, with this hold and this write
abbrev pub quick_row : Hold → Option Written → Row
quick_row hold written = waiting_row hold (Some (quick 1 4 None)) (Some quick_record) written

-- the quick one retires, and the sum waits for the write of x5
abbrev pub passing_3 : Row
passing_3 = quick_row (Board (X 5) 0) None

-- the sum waits, and a unit writes
abbrev pub paying_row : Option Written → Row
paying_row written = waiting_row (Board (X 5) 0) None None written

-- the younger one is written first
abbrev pub passing_4 : Row
passing_4 = paying_row (Some (write_of 1 6 (Now 4)))

-- then the older one
abbrev pub passing_5 : Row
passing_5 = paying_row (Some (write_of 0 5 (Now 3)))

-- the sum leaves EX
abbrev pub passing_6 : Row
passing_6 = full_row (Some (break 3 12 None)) (Some (sum 2 8 None)) None None None None

-- the last row, in which the sum retires, with what it writes
abbrev pub passing_last : Slot ℕ → Row
passing_last slot = full_row None (Some (break 3 12 None)) (Some (sum 2 8 None)) (Some (2, record_of 8 6456243 7 slot)) None (Some Ebreak)

-- the run stops
abbrev pub passing_7 : Row
passing_7 = passing_last (Now 7)

-- the rows before the quick one retires, the newest first
abbrev pub passing_three : List Row
passing_three = passing_2 ∷ passing_1 ∷ passing_0 ∷ []

-- the rows up to its retirement
abbrev pub passing_four : List Row
passing_four = passing_3 ∷ passing_three

-- the rows up to the write of the younger one
abbrev pub passing_five : List Row
passing_five = passing_4 ∷ passing_four

-- the rows up to the write of the older one
abbrev pub passing_six : List Row
passing_six = passing_5 ∷ passing_five

-- all but the last one
abbrev pub passing_seven : List Row
passing_seven = passing_6 ∷ passing_six

-- its rows, the newest first
abbrev pub passing_rows : List Row
passing_rows = passing_7 ∷ passing_seven

-- the rows are not lawful
abbrev pub IsUnlawful : List Row → Type 0
IsUnlawful rows = Lawful (λ places. passing) rows → ⊥

-- what the rows retire, write or leave is not the run's
abbrev pub IsOther : List Row → Type 0
IsOther rows = Agreeing bare (λ places. passing) rows → ⊥

-- the sum goes on before x5 and x6 are written
abbrev pub board_left_out : List Row
board_left_out = full_row (Some (break 3 12 None)) (Some (sum 2 8 None)) (Some (quick 1 4 None)) (Some quick_record) None None ∷ passing_three

-- the sum shows another register, for which it waits too, and the younger serial
abbrev pub board_of_another : List Row
board_of_another = quick_row (Board (X 6) 1) None ∷ passing_three

-- the sum shows a younger serial, which does not write this register
abbrev pub board_of_younger : List Row
board_of_younger = quick_row (Board (X 5) 1) None ∷ passing_three

-- the sum waits for a write that was made in the row before
abbrev pub board_after_write : List Row
board_after_write = paying_row None ∷ passing_six

-- nothing is written, though a unit has finished
abbrev pub none_written : List Row
none_written = paying_row None ∷ passing_four

-- a write one row early, in the row of the retirement
abbrev pub written_early : List Row
written_early = quick_row (Board (X 5) 0) (Some (write_of 1 6 (Now 4))) ∷ passing_three

-- a write of a serial that is not retired
abbrev pub written_unretired : List Row
written_unretired = paying_row (Some (write_of 2 7 (Now 7))) ∷ passing_four

-- a write that is made twice
abbrev pub written_twice : List Row
written_twice = paying_row (Some (write_of 1 6 (Now 4))) ∷ passing_five

-- the value that is written is another
abbrev pub wrong_write : List Row
wrong_write = paying_row (Some (write_of 1 6 (Now 5))) ∷ passing_four

-- a write of the instruction's own body is shown as coming later
abbrev pub late_native : List Row
late_native = passing_last Later ∷ passing_seven

-- a retirement that shows the value that its `spawn` body writes
abbrev pub early_spawn : List Row
early_spawn = full_row (Some (sum 2 8 None)) (Some (quick 1 4 None)) (Some (slow 0 0 None)) (Some (0, record_of 0 3146387 5 (Now 3))) None None ∷ passing_1 ∷ passing_0 ∷ []

-- The port: a unit writes x6 while an instruction that writes x7 stands in the last stage. Behind the image nothing stops the run but the fetch

-- quick, native, brisk
abbrev pub port_hand : Hand
port_hand = spawning_hand (4195091 ∷ 5243795 ∷ 6292499 ∷ []) (two_units 3 1)

-- what its rows are judged against
abbrev pub port : Setting
port = by_hand port_hand

-- the quick one is fetched
abbrev pub port_0 : Row
port_0 = full_row (Some (quick 0 0 None)) None None None None None

-- it leaves EX
abbrev pub port_1 : Row
port_1 = full_row (Some (native 1 4 None)) (Some (quick 0 0 None)) None None None None

-- it retires
abbrev pub port_2 : Row
port_2 = full_row (Some (brisk 2 8 None)) (Some (native 1 4 None)) (Some (quick 0 0 None)) (Some (0, record_of 0 4195091 6 Later)) None None

-- the write of x6
abbrev pub port_write : Written
port_write = write_of 0 6 (Now 4)

-- it is written, and the port is taken
abbrev pub port_3 : Row
port_3 = full_row None (Some (brisk 2 8 (Some Behind))) (Some (native 1 4 (Some (Port 0)))) None (Some port_write) None

-- what the native one retires
abbrev pub native_record : ℕ × Commit
native_record = (1, record_of 4 5243795 7 (Now 5))

-- the native one retires
abbrev pub port_4 : Row
port_4 = full_row None (Some (brisk 2 8 None)) (Some (native 1 4 None)) (Some native_record) None None

-- the last instruction retires, with this stop
abbrev pub emptying : Option Stop → Row
emptying stop = full_row None None (Some (brisk 2 8 None)) (Some (2, record_of 8 6292499 8 Later)) None stop

-- its write is outstanding, and the run goes on
abbrev pub port_5 : Row
port_5 = emptying None

-- the last row, with this stop
abbrev pub port_last : Option Stop → Row
port_last stop = full_row None None None None (Some (write_of 2 8 (Now 6))) stop

-- all is written, and the run stops
abbrev pub port_6 : Row
port_6 = port_last (Some Fetch)

-- the rows up to the retirement of the quick one, the newest first
abbrev pub port_three : List Row
port_three = port_2 ∷ port_1 ∷ port_0 ∷ []

-- the rows up to its write
abbrev pub port_four : List Row
port_four = port_3 ∷ port_three

-- the rows up to the retirement of the native one
abbrev pub port_five : List Row
port_five = port_4 ∷ port_four

-- all but the last one
abbrev pub port_six : List Row
port_six = port_5 ∷ port_five

-- its rows, the newest first
abbrev pub port_rows : List Row
port_rows = port_6 ∷ port_six

-- the rows are not lawful
abbrev pub IsUnlawfulAtPort : List Row → Type 0
IsUnlawfulAtPort rows = Lawful (λ places. port) rows → ⊥

-- both write in one row
abbrev pub port_left_out : List Row
port_left_out = full_row None (Some (brisk 2 8 None)) (Some (native 1 4 None)) (Some native_record) (Some port_write) None ∷ port_three

-- Port in a row in which nothing is written
abbrev pub port_without_write : List Row
port_without_write = full_row None (Some (brisk 2 8 (Some Behind))) (Some (native 1 4 (Some (Port 0)))) None None None ∷ port_four

-- the run stops at the fetch while a write is outstanding
abbrev pub stop_before_write : List Row
stop_before_write = emptying (Some Fetch) ∷ port_five

-- the run does not stop though all is written
abbrev pub stop_left_out : List Row
stop_left_out = port_last None ∷ port_six

-- The frozen unit: the unit with three times and the one with two finish in the same row, and the lower one writes

-- slow, quick, brisk, fence, ebreak
abbrev pub frozen_hand : Hand
frozen_hand = spawning_hand (3146387 ∷ 4195091 ∷ 6292499 ∷ 15 ∷ 1048691 ∷ []) (two_units 3 2)

-- what its rows are judged against
abbrev pub frozen : Setting
frozen = by_hand frozen_hand

-- the slow one is fetched
abbrev pub frozen_0 : Row
frozen_0 = full_row (Some (slow 0 0 None)) None None None None None

-- it leaves EX
abbrev pub frozen_1 : Row
frozen_1 = full_row (Some (quick 1 4 None)) (Some (slow 0 0 None)) None None None None

-- it retires into unit 0
abbrev pub frozen_2 : Row
frozen_2 = full_row (Some (brisk 2 8 None)) (Some (quick 1 4 None)) (Some (slow 0 0 None)) (Some (0, record_of 0 3146387 5 Later)) None None

-- the quick one retires into unit 1
abbrev pub frozen_3 : Row
frozen_3 = full_row (Some (hollow 3 12 None)) (Some (brisk 2 8 None)) (Some (quick 1 4 None)) (Some (1, record_of 4 4195091 6 Later)) None None

-- the brisk one retires into unit 1
abbrev pub frozen_4 : Row
frozen_4 = full_row (Some (break 4 16 None)) (Some (hollow 3 12 None)) (Some (brisk 2 8 None)) (Some (2, record_of 8 6292499 8 Later)) None None

-- both units have finished, unit 0 writes, and the one behind shows this hold
abbrev pub freezing : Option Hold → Option (ℕ × Commit) → Option Written → Row
freezing hold retired written = full_row None (Some (break 4 16 (Some (Drain 1)))) (Some (hollow 3 12 hold)) retired written None

-- the write of x5
abbrev pub slow_write : Written
slow_write = write_of 0 5 (Now 3)

-- the one behind cannot enter the frozen unit
abbrev pub frozen_5 : Row
frozen_5 = freezing (Some (UnitFull 1)) None (Some slow_write)

-- what the fence retires, which shows this
abbrev pub hollow_record : ℕ → Slot ℕ → ℕ × Commit
hollow_record rd slot = (3, record_of 12 15 rd slot)

-- the row behind the freeze, with what is retired and written
abbrev pub thawing : ℕ × Commit → Written → Row
thawing retired written = full_row None (Some (break 4 16 (Some (Drain 2)))) (Some (hollow 3 12 None)) (Some retired) (Some written) None

-- the write of x6
abbrev pub quick_write : Written
quick_write = write_of 1 6 (Now 4)

-- unit 1 writes, and the one behind enters it
abbrev pub frozen_6 : Row
frozen_6 = thawing (hollow_record 9 Later) quick_write

-- the write of x8
abbrev pub brisk_write : Written
brisk_write = write_of 2 8 (Now 6)

-- the next one of unit 1 is written, and the run waits for the last
abbrev pub frozen_7 : Row
frozen_7 = full_row None (Some (break 4 16 (Some (Drain 3)))) None None (Some brisk_write) None

-- the last one takes its turn and writes nothing, since its condition is false; the run stops
abbrev pub frozen_8 : Row
frozen_8 = full_row None (Some (break 4 16 None)) None None (Some (write_of 3 0 Absent)) (Some Ebreak)

-- the rows before the freeze, the newest first
abbrev pub frozen_five : List Row
frozen_five = frozen_4 ∷ frozen_3 ∷ frozen_2 ∷ frozen_1 ∷ frozen_0 ∷ []

-- the rows up to the freeze
abbrev pub frozen_six : List Row
frozen_six = frozen_5 ∷ frozen_five

-- the rows up to the entry behind it
abbrev pub frozen_seven : List Row
frozen_seven = frozen_6 ∷ frozen_six

-- all but the last one
abbrev pub frozen_eight : List Row
frozen_eight = frozen_7 ∷ frozen_seven

-- its rows, the newest first
abbrev pub frozen_rows : List Row
frozen_rows = frozen_8 ∷ frozen_eight

-- the rows are not lawful
abbrev pub IsUnlawfulFrozen : List Row → Type 0
IsUnlawfulFrozen rows = Lawful (λ places. frozen) rows → ⊥

-- what the rows retire, write or leave is not the run's
abbrev pub IsOtherFrozen : List Row → Type 0
IsOtherFrozen rows = Agreeing bare (λ places. frozen) rows → ⊥

-- an instruction enters a frozen unit
abbrev pub full_left_out : List Row
full_left_out = freezing None (Some (hollow_record 9 Later)) (Some slow_write) ∷ frozen_five

-- UnitFull of the other unit
abbrev pub full_of_another : List Row
full_of_another = freezing (Some (UnitFull 0)) None (Some slow_write) ∷ frozen_five

-- the higher one of two units that have finished writes
abbrev pub higher_written : List Row
higher_written = freezing (Some (UnitFull 1)) None (Some quick_write) ∷ frozen_five

-- what stands in a frozen unit moves on, so that the next one is written a row early
abbrev pub frozen_moves : List Row
frozen_moves = thawing (hollow_record 9 Later) brisk_write ∷ frozen_six

-- the run stops while a write is outstanding
abbrev pub drain_left_out : List Row
drain_left_out = full_row None (Some (break 4 16 None)) None None (Some brisk_write) (Some Ebreak) ∷ frozen_seven

-- a spawn target is not shown where the condition of its write is false
abbrev pub later_left_out : List Row
later_left_out = thawing (hollow_record 0 Absent) quick_write ∷ frozen_six

-- what is outstanding when both are retired, in the order of retirement
abbrev pub OwesBoth : Type 0
OwesBoth = outstanding_targets passing passing_four ≡ (0, X 5) ∷ (1, X 6) ∷ []

-- and behind the write of the younger one
abbrev pub OwesOne : Type 0
OwesOne = outstanding_targets passing passing_five ≡ (0, X 5) ∷ []

-- then the younger write is in the architectural state, and the older one is not
abbrev pub WritesOne : Type 0
WritesOne = (slice_index (architecture bare passing passing_five).x 5 ≡ 0) × (slice_index (architecture bare passing passing_five).x 6 ≡ 4)

-- and both are in the applied one
abbrev pub AppliesBoth : Type 0
AppliesBoth = (slice_index (applied_state bare passing passing_five).x 5 ≡ 3) × (slice_index (applied_state bare passing passing_five).x 6 ≡ 4)
