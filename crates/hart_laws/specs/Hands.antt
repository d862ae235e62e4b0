-- Harts that are made by hand, and the rows that two of them have (this project's choice).
use Rattle.std.specs.Prelude.{◌≡◌, ℕ, ◌+◌, List, [], ◌∷◌, length, replicate, Option, Some, None, true, false}
use Rattle.ix_eval.specs.Tables.{table}
use Rattle.ix_plan.specs.Units.{Slots}
use Rattle.rv_asks.specs.declared.asks.Asks.{Asks}
use Rattle.rv_asks.specs.Asks.{asks_with, blank_outline}
use Rattle.rv_core.specs.declared.Shape.{Shape}
use Rattle.rv_core.specs.Stages.{three_lawful, five_lawful}
use Rattle.rv_seq.specs.Decoding.{decoded_in}
use Rattle.rv_lawful.specs.Outstanding.{Written}
use Rattle.rv_lawful.specs.Settings.{Setting, course_of}
use Rattle.rv_seq.specs.Bare.{bare}
use Rattle.rv_seq.specs.declared.commit.Commit.{Commit}
use Rattle.rv_seq.specs.declared.commit.Slot.{Slot}
use Rattle.rv_seq.specs.declared.commit.Slot.TheVariants.{Absent, Now, Later}
use Rattle.rv_seq.specs.declared.commit.Stop.{Stop}
use Rattle.rv_seq.specs.States.{zero_bit}
use Rattle.rv_trace.specs.RowParts.{in_five}
use Rattle.rv_harts.specs.declared.row.BarrelCell.{BarrelCell}
use Rattle.rv_harts.specs.declared.row.BarrelRow.{BarrelRow}
use Rattle.rv_harts.specs.declared.row.HartPart.{HartPart}
use Rattle.rv_harts.specs.declared.row.Turn.{Turn}
use Rattle.rv_harts.specs.HartRows.{hart_at}
use Rattle.rv_harts.specs.BarrelRows.{row_of_two}

-- Harts

-- the numbers of the core of three stages
abbrev pub three : Shape
three = record { stages = 3; rd = 1; ex = 1; mem = 2; forward = false; predict = false; trap = 16; lawful = three_lawful }

-- those of the core of five stages
abbrev pub five : Shape
five = record { stages = 5; rd = 1; ex = 2; mem = 3; forward = false; predict = false; trap = 16; lawful = five_lawful }

-- what is made by hand: a core, what is asked of each word's instruction, and the units
pub record Hand : Type 0 where
  pub shape : Shape
  pub asks : ℕ → Asks
  pub units : List Slots

-- what a hart goes by there: the run of an image of the base set
abbrev pub hart_of : Hand → List ℕ → Setting
hart_of h image =
    record {
      image = image;
      waits = [];
      lines = None;
      entries = None;
      shape = h.shape;
      course = course_of bare image None;
      asks = h.asks;
      units = h.units;
      initial = replicate 16 zero_bit;
      jump = λ file at word. None;
    }

-- what is asked of a word where there is no extension
abbrev pub base_asks : Shape → ℕ → Asks
base_asks shape word = asks_with shape [] (λ n. None) (blank_outline shape []) word (decoded_in bare word)

-- a core of this shape without an extension
abbrev pub plain : Shape → Hand
plain shape = record { shape = shape; asks = base_asks shape; units = [] }

-- Rows

-- the cell of a hart
abbrev pub cell : ℕ → ℕ → ℕ → ℕ → Option Turn → Option BarrelCell
cell word hart serial at turned = Some (record { hart = hart; serial = serial; at = at; word = word; turned = turned })

-- what happens to a hart: what retires, what is written, which serials are flushed, the redirect and the stop
abbrev pub part_with : Option (ℕ × Commit) → Option Written → List ℕ → Option ℕ → Option Stop → HartPart
part_with retired written flushed redirect stop = record { retired = retired; written = written; flushed = in_five flushed; redirect = redirect; stop = stop }

-- nothing but moves
abbrev pub nothing : HartPart
nothing = part_with None None [] None None

-- an instruction retires
abbrev pub retiring : ℕ → Commit → HartPart
retiring serial commit = part_with (Some (serial, commit)) None [] None None

-- a unit writes
abbrev pub writing : Written → HartPart
writing w = part_with None (Some w) [] None None

-- the hart stops
abbrev pub stopping : Stop → HartPart
stopping stop = part_with None None [] None (Some stop)

-- a row of the core of three stages
abbrev pub short_row : Option BarrelCell → Option BarrelCell → Option BarrelCell → HartPart → HartPart → BarrelRow
short_row a b c first second = record { cells = a ∷ b ∷ c ∷ None ∷ None ∷ []; parts = first ∷ second ∷ [] }

-- a row of the core of five stages
abbrev pub long_row : Option BarrelCell → Option BarrelCell → Option BarrelCell → Option BarrelCell → Option BarrelCell → HartPart → HartPart → BarrelRow
long_row a b c d e first second = record { cells = a ∷ b ∷ c ∷ d ∷ e ∷ []; parts = first ∷ second ∷ [] }

-- the writes of an instruction at an address
abbrev pub record_of : ℕ → ℕ → ℕ → Slot ℕ → ℕ → Commit
record_of at word rd slot next = record { at = at; word = word; rd_index = rd; rd = slot; custom = replicate 16 Absent; store = None; next = next }

-- it writes this value to an x register
abbrev pub puts : ℕ → ℕ → ℕ → ℕ → Commit
puts at word rd value = record_of at word rd (Now value) (at + 4)

-- it writes an x register later
abbrev pub later : ℕ → ℕ → ℕ → Commit
later at word rd = record_of at word rd Later (at + 4)

-- it goes on at this address
abbrev pub goes : ℕ → ℕ → ℕ → Commit
goes at word next = record_of at word 0 Absent next

-- a unit writes this value of a serial to an x register
abbrev pub write_of : ℕ → ℕ → ℕ → Written
write_of serial rd value = (serial, rd, Now value, replicate 16 Absent)

-- Runs

-- two harts with these images have these rows, the oldest first, and both have stopped behind them
pub record HaveRows (h : Hand) (a b : List ℕ) (rows : List BarrelRow) : Type 0 where
  pub rows_are : table (row_of_two (hart_of h a) (hart_of h b)) (length rows) ≡ rows
  pub first_stopped : (hart_at (hart_of h a) 0 (length rows)).stopped ≡ true
  pub second_stopped : (hart_at (hart_of h b) 1 (length rows)).stopped ≡ true
