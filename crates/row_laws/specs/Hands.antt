-- Runs and rows that are made by hand, most of them on the core of three stages (this project's choice).
use Rattle.std.specs.Prelude.{ℕ, List, [], ◌∷◌, replicate, Option, None, Bool, true, false}
use Rattle.ix_bits.specs.declared.number.Bits.{Bits}
use Rattle.ix_plan.specs.Units.{Slots}
use Rattle.rv_asks.specs.declared.asks.Asks.{Asks}
use Rattle.rv_core.specs.declared.Shape.{Shape}
use Rattle.rv_core.specs.Stages.{three_lawful, five_lawful}
use Rattle.rv_lawful.specs.Settings.{Setting, Course}
use Rattle.rv_seq.specs.declared.commit.Commit.{Commit}
use Rattle.rv_seq.specs.declared.commit.Slot.TheVariants.{Absent}
use Rattle.rv_seq.specs.declared.commit.Stop.{Stop}
use Rattle.rv_seq.specs.States.{zero_bit}
use Rattle.rv_trace.specs.declared.row.Cell.{Cell}
use Rattle.rv_trace.specs.declared.row.Hold.{Hold}
use Rattle.rv_trace.specs.declared.row.Row.{Row}

-- what is made by hand: the words of an image, a run, what is asked of each word's instruction, the units and the custom registers before the first row, and where the
-- always-blocks jump to
pub record Hand : Type 0 where
  pub image : List ℕ
  pub course : Course
  pub asks : ℕ → Asks
  pub units : List Slots
  pub initial : List Bits
  pub jump : List Bits → ℕ → ℕ → Option ℕ

-- the numbers of that core
abbrev pub three : Shape
three = record { stages = 3; rd = 1; ex = 1; mem = 2; forward = false; predict = false; trap = 16; lawful = three_lawful }

-- those of one that forwards
abbrev pub three_forwarding : Shape
three_forwarding = record { stages = 3; rd = 1; ex = 1; mem = 2; forward = true; predict = false; trap = 16; lawful = three_lawful }

-- those of one that predicts
abbrev pub three_predicting : Shape
three_predicting = record { stages = 3; rd = 1; ex = 1; mem = 2; forward = false; predict = true; trap = 16; lawful = three_lawful }

-- those of the core of five stages, where it forwards
abbrev pub five_forwarding : Shape
five_forwarding = record { stages = 5; rd = 1; ex = 2; mem = 3; forward = true; predict = false; trap = 16; lawful = five_lawful }

-- those of one of five stages, in which RD and EX differ, and MEM and WB
abbrev pub five : Shape
five = record { stages = 5; rd = 1; ex = 2; mem = 3; forward = false; predict = false; trap = 16; lawful = five_lawful }

-- what the rows of a core with these numbers are judged against, over a memory with these waits, without an interrupt line
abbrev pub over_memory : List ℕ → Shape → Hand → Setting
over_memory waits shape h =
    record {
      image = h.image;
      waits = waits;
      lines = None;
      entries = None;
      shape = shape;
      course = h.course;
      asks = h.asks;
      units = h.units;
      initial = h.initial;
      jump = h.jump;
    }

-- those over a memory that never waits
abbrev pub on_core : Shape → Hand → Setting
on_core shape h = over_memory [] shape h

-- those of the core of three stages
abbrev pub by_hand : Hand → Setting
by_hand h = on_core three h

-- no custom register
abbrev pub no_customs : List Bool
no_customs = replicate 16 false

-- nor a value of one
abbrev pub no_values : List Bits
no_values = replicate 16 zero_bit

-- always-blocks that never jump
abbrev pub no_jump : List Bits → ℕ → ℕ → Option ℕ
no_jump file at word = None

-- always-blocks that write no custom register
abbrev pub no_blocks : ℕ → List (Option Bits)
no_blocks p = replicate 16 None

-- instructions that write no custom register themselves
abbrev pub none_own : ℕ → List Bool
none_own p = no_customs

-- an instruction of which nothing is asked
abbrev pub quiet : Asks
quiet =
    record {
      first = 0;
      second = 0;
      destination = 0;
      x_time = 0;
      spawned = None;
      loads = false;
      stores = false;
      late = false;
      tail = 0;
      customs = no_customs;
      late_customs = no_customs;
      spawned_customs = no_customs;
      unit = None;
    }

-- the writes of an instruction at an address that writes nothing but the pc
abbrev pub going : ℕ → ℕ → ℕ → Commit
going at word next =
    record { at = at; word = word; rd_index = 0; rd = Absent; custom = replicate 16 Absent; store = None; next = next }

-- the cell of this serial, fetched at this address
abbrev pub cell : ℕ → ℕ → ℕ → Option Hold → Cell
cell serial at word hold = record { serial = serial; at = at; word = word; hold = hold }

-- no serial
abbrev pub none_flushed : List (Option ℕ)
none_flushed = replicate 5 None

-- a row with the cells of three stages, what it retires, its flushed serials, its redirect and its stop
abbrev pub row_with : Option Cell → Option Cell → Option Cell → Option (ℕ × Commit) → List (Option ℕ) → Option ℕ → Option Stop → Row
row_with a b c retired flushed redirect stop =
    record {
      cells = a ∷ b ∷ c ∷ None ∷ None ∷ [];
      retired = retired;
      written = None;
      flushed = flushed;
      redirect = redirect;
      taken = None;
      stop = stop;
    }

-- a row that flushes nothing and goes on
abbrev pub row_of : Option Cell → Option Cell → Option Cell → Option (ℕ × Commit) → Row
row_of a b c retired = row_with a b c retired none_flushed None None

-- a row of a core of five stages that flushes nothing, with what it retires and its stop
abbrev pub long_row : Option Cell → Option Cell → Option Cell → Option Cell → Option Cell → Option (ℕ × Commit) → Option Stop → Row
long_row a b c d e retired stop =
    record {
      cells = a ∷ b ∷ c ∷ d ∷ e ∷ [];
      retired = retired;
      written = None;
      flushed = none_flushed;
      redirect = None;
      taken = None;
      stop = stop;
    }
