-- Two harts on the core of three stages, which takes some instructions of the base set as decoupled: writes out of order, and turns for the scoreboard, a unit and a stop (SCAIE-V,
-- decoupled execution; which unit writes, and that a cell which would have to wait is fetched again, is this project's choice).
use Rattle.std.specs.Prelude.{◌≡◌, ℕ, List, [], ◌∷◌, replicate, Option, Some, None, false, if◌then◌else◌, ◌==◌, slice_index}
use Rattle.ix_plan.specs.declared.design.Target.TheVariants.{X}
use Rattle.ix_plan.specs.Units.{Slots}
use Rattle.rv_asks.specs.declared.asks.Asks.{Asks}
use Rattle.rv_seq.specs.Bare.{bare}
use Rattle.rv_seq.specs.Runs.{run}
use Rattle.rv_seq.specs.declared.commit.Stop.TheVariants.{Ebreak, Fetch}
use Rattle.rv_harts.specs.declared.row.BarrelCell.{BarrelCell}
use Rattle.rv_harts.specs.declared.row.BarrelRow.{BarrelRow}
use Rattle.rv_harts.specs.declared.row.Turn.{Turn}
use Rattle.rv_harts.specs.declared.row.Turn.TheVariants.{Board, Unit, Drain}
use Rattle.rv_harts.specs.HartStates.{retirements, architecture, applied_state, outstanding_targets}
use Rattle.hart_laws.specs.Hands.{Hand, hart_of, three, cell, part_with, nothing, retiring, writing, stopping, short_row, puts, later, write_of}

-- addi x5, x0, 3 (00300293)
abbrev pub slow_word : ℕ
slow_word = 3146387

-- its cell, of this hart, with this serial at this address
abbrev pub slow : ℕ → ℕ → ℕ → Option Turn → Option BarrelCell
slow = cell slow_word

-- addi x6, x0, 4 (00400313)
abbrev pub quick_word : ℕ
quick_word = 4195091

-- its cell, of this hart, with this serial at this address
abbrev pub quick : ℕ → ℕ → ℕ → Option Turn → Option BarrelCell
quick = cell quick_word

-- addi x8, x0, 6 (00600413)
abbrev pub brisk_word : ℕ
brisk_word = 6292499

-- its cell, of this hart, with this serial at this address
abbrev pub brisk : ℕ → ℕ → ℕ → Option Turn → Option BarrelCell
brisk = cell brisk_word

-- add x7, x5, x6 (006283b3)
abbrev pub sum_word : ℕ
sum_word = 6456243

-- its cell, of this hart, with this serial at this address
abbrev pub sum : ℕ → ℕ → ℕ → Option Turn → Option BarrelCell
sum = cell sum_word

-- ebreak (00100073)
abbrev pub break_word : ℕ
break_word = 1048691

-- its cell, of this hart, with this serial at this address
abbrev pub break : ℕ → ℕ → ℕ → Option Turn → Option BarrelCell
break = cell break_word

-- an instruction that reads these registers, writes that one in its own body and this one by `spawn`, in this unit
abbrev pub asked : ℕ → ℕ → ℕ → Option ℕ → Option ℕ → Asks
asked first second destination spawned unit =
    record {
      first = first;
      second = second;
      destination = destination;
      x_time = 1;
      spawned = spawned;
      loads = false;
      stores = false;
      late = false;
      tail = 0;
      customs = replicate 16 false;
      late_customs = replicate 16 false;
      spawned_customs = replicate 16 false;
      unit = unit;
    }

-- what is asked of each word: the first three write by `spawn`, the slow one in unit 0 and the others in unit 1, and the sum reads what the first two write
abbrev pub spawning_asks : ℕ → Asks
spawning_asks word =
    if word == slow_word then asked 0 0 0 (Some 5) (Some 0)
    else if word == quick_word then asked 0 0 0 (Some 6) (Some 1)
    else if word == brisk_word then asked 0 0 0 (Some 8) (Some 1)
    else if word == sum_word then asked 5 6 7 None None
    else asked 0 0 0 None None

-- a unit with three times and one with one time, in which nothing stands
abbrev pub two_units : List Slots
two_units = replicate 3 None ∷ replicate 1 None ∷ []

-- such a core
abbrev pub spawning : Hand
spawning = record { shape = three; asks = spawning_asks; units = two_units }

-- the sum waits for the slow one, whose write comes behind that of the quick one
abbrev pub passing : List ℕ
passing = slow_word ∷ quick_word ∷ sum_word ∷ break_word ∷ []

-- the stop waits for the slow one
abbrev pub draining : List ℕ
draining = slow_word ∷ break_word ∷ []

-- the sum is turned also in the row in which the slow one is written, and the stop is not
abbrev pub passing_rows : List BarrelRow
passing_rows =
    short_row (slow 0 0 0 None) None None nothing nothing
    ∷ short_row (slow 1 0 0 None) (slow 0 0 0 None) None nothing nothing
    ∷ short_row (quick 0 1 4 None) (slow 1 0 0 None) (slow 0 0 0 None) (retiring 0 (later 0 slow_word 5)) nothing
    ∷ short_row (break 1 1 4 None) (quick 0 1 4 None) (slow 1 0 0 None) nothing (retiring 0 (later 0 slow_word 5))
    ∷ short_row (sum 0 2 8 None) (break 1 1 4 (Some (Drain 0))) (quick 0 1 4 None) (retiring 1 (later 4 quick_word 6)) nothing
    ∷ short_row (break 1 2 4 None) (sum 0 2 8 (Some (Board (X 5) 0))) None (writing (write_of 1 6 4)) nothing
    ∷ short_row (sum 0 3 8 None) (break 1 2 4 (Some (Drain 0))) None nothing nothing
    ∷ short_row (break 1 3 4 None) (sum 0 3 8 (Some (Board (X 5) 0))) None (writing (write_of 0 5 3)) nothing
    ∷ short_row (sum 0 4 8 None) (break 1 3 4 None) None nothing (part_with None (Some (write_of 0 5 3)) [] None (Some Ebreak))
    ∷ short_row None (sum 0 4 8 None) None nothing nothing
    ∷ short_row (break 0 5 12 None) None (sum 0 4 8 None) (retiring 4 (puts 8 sum_word 7 7)) nothing
    ∷ short_row None (break 0 5 12 None) None (stopping Ebreak) nothing
    ∷ []

-- before row 6 the younger write of the first hart is made and the older one is not: with it applied its state is that of its run behind two instructions
pub record IsApplied : Type 0 where
  pub owes : outstanding_targets (hart_of spawning passing) 0 6 ≡ (0, X 5) ∷ []
  pub younger : slice_index (architecture bare (hart_of spawning passing) 0 6).x 6 ≡ 4
  pub older : slice_index (architecture bare (hart_of spawning passing) 0 6).x 5 ≡ 0
  pub count : retirements (hart_of spawning passing) 0 6 ≡ 2
  pub applied : applied_state bare (hart_of spawning passing) 0 6 ≡ run bare passing 2

-- two of one unit, which hold nothing up but each other
abbrev pub sharing : List ℕ
sharing = quick_word ∷ brisk_word ∷ []

-- one of each unit
abbrev pub mixing : List ℕ
mixing = slow_word ∷ quick_word ∷ []

-- the second one of a unit is turned in the row in which the first one is written; each hart stops with Fetch behind its last write, in a row in which it could fetch
abbrev pub sharing_rows : List BarrelRow
sharing_rows =
    short_row (quick 0 0 0 None) None None nothing nothing
    ∷ short_row (slow 1 0 0 None) (quick 0 0 0 None) None nothing nothing
    ∷ short_row (brisk 0 1 4 None) (slow 1 0 0 None) (quick 0 0 0 None) (retiring 0 (later 0 quick_word 6)) nothing
    ∷ short_row (quick 1 1 4 None) (brisk 0 1 4 (Some (Unit 1 0))) (slow 1 0 0 None) (writing (write_of 0 6 4)) (retiring 0 (later 0 slow_word 5))
    ∷ short_row (brisk 0 2 4 None) (quick 1 1 4 None) None nothing nothing
    ∷ short_row None (brisk 0 2 4 None) (quick 1 1 4 None) nothing (retiring 1 (later 4 quick_word 6))
    ∷ short_row None None (brisk 0 2 4 None) (retiring 2 (later 4 brisk_word 8)) (writing (write_of 1 6 4))
    ∷ short_row None None None (writing (write_of 2 8 6)) nothing
    ∷ short_row None None None (stopping Fetch) (writing (write_of 0 5 3))
    ∷ short_row None None None nothing (stopping Fetch)
    ∷ []
