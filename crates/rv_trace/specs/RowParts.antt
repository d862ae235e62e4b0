-- What the laws of rows are made of: how cells move, the order of holds, and the form of a row (this project's choice).
use Rattle.std.specs.Prelude.{◌≡◌, ℕ, suc, ◌+◌, ◌-◌, ◌<◌, ◌≤◌, List, [], ◌∷◌, ◌++◌, map, length, replicate, Option, Some, None, false, ◌&&◌, ◌||◌, not, if◌then◌else◌, is_some, ◌⊎◌}
use Rattle.rv_trace.specs.declared.row.Cell.{Cell}
use Rattle.rv_trace.specs.declared.row.Row.{Row}
use Rattle.ix_plan.specs.declared.design.Target.{Target}
use Rattle.ix_plan.specs.declared.design.Target.TheVariants.{X, Custom as custom_target}
use Rattle.rv_trace.specs.declared.row.Hold.{Hold}
use Rattle.rv_trace.specs.declared.row.Hold.TheVariants.{Operand, Board, Custom, Late, Trap, Drain, Wait, StoreAhead, Tail, UnitFull, Port, Behind}
use Rattle.rv_trace.specs.Trace.{has_serial, is_flushed}

-- Moves and fetch

-- the serial, the address and the word of a cell, which it keeps from row to row
abbrev pub Name : Type 0
Name = ℕ × ℕ × ℕ

-- the name of what stands in a stage
abbrev pub name_of : Option Cell → Option Name
name_of None = None
name_of (Some c) = Some (c.serial, c.at, c.word)

-- the names of what stands in the stages
abbrev pub names_of : List (Option Cell) → List (Option Name)
names_of = map name_of

-- the cell that is held in its stage
abbrev pub stays : Row → Option Cell → Option Name
stays row None = None
stays row (Some c) = if is_some c.hold && not (has_serial row.flushed c.serial) then name_of (Some c) else None

-- the cell that moves to the next stage, or retires from the last; one that stops the run does so in no row that has a next one
abbrev pub leaves : Row → Option Cell → Option Name
leaves row None = None
leaves row (Some c) = if is_some c.hold || has_serial row.flushed c.serial then None else name_of (Some c)

-- what stands in stage 0
abbrev pub front : List (Option Cell) → Option Cell
front [] = None
front (c ∷ rest) = c

-- this address, where there is one, and else the other
abbrev pub unless : Option ℕ → ℕ → ℕ
unless None n = n
unless (Some m) n = m

-- the serial behind that of a cell, where there is one
abbrev pub serial_after : ℕ → Option Cell → ℕ
serial_after next None = next
serial_after next (Some c) = suc c.serial

-- what a fetch of this serial and address brings, where there is a word
abbrev pub fetched : ℕ → ℕ → Option ℕ → Option Name
fetched serial at None = None
fetched serial at (Some word) = Some (serial, at, word)

-- what comes into stage 0, where this is held there
abbrev pub comes : Option Name → Option Name → Option Name
comes None new = new
comes (Some n) new = None

-- a stage has the cell that stayed or the one that came; they are never both there
abbrev pub InStage : Option Name → Option Name → Option Name → Type 0
InStage None came now = now ≡ came
InStage (Some n) None now = now ≡ Some n
InStage (Some n) (Some m) now = ⊥

-- stage by stage, from the cells of one row to those of the next, with what comes into the first of these stages
abbrev pub MovesInto : Row → Option Name → List (Option Cell) → List (Option Name) → Type 0
MovesInto row came [] [] = Unit {0}
MovesInto row came (was ∷ before) (now ∷ later) = InStage (stays row was) came now × MovesInto row (leaves row was) before later
MovesInto row came [] (now ∷ later) = ⊥
MovesInto row came (was ∷ before) [] = ⊥

-- Holds

-- an older cell: it has a lower serial, and is not flushed in one of these rows
pub record IsOlder (rows : List Row) (s j : ℕ) : Type 0 where
  pub lower : j < s
  pub unflushed : is_flushed rows j ≡ false

-- the order of the holds
abbrev pub kind_of : Hold → ℕ
kind_of (Operand r j) = 0
kind_of (Board t j) = 1
kind_of (Custom r j) = 2
kind_of (Late j) = 3
kind_of Trap = 4
kind_of (Drain j) = 5
kind_of (Wait left) = 6
kind_of (StoreAhead j) = 7
kind_of (Tail left) = 8
kind_of (UnitFull u) = 9
kind_of (Port j) = 10
kind_of Behind = 11

-- the number of a target, those of x registers before those of custom ones
abbrev pub target_number : Target → ℕ
target_number (X r) = r
target_number (custom_target c) = 32 + c

-- the register that a hold names, x registers before custom ones
abbrev pub register_of : Hold → ℕ
register_of (Operand r j) = r
register_of (Board t j) = target_number t
register_of (Custom r j) = r
register_of (Late j) = 0
register_of Trap = 0
register_of (Drain j) = 0
register_of (Wait left) = 0
register_of (StoreAhead j) = 0
register_of (Tail left) = 0
register_of (UnitFull u) = 0
register_of (Port j) = 0
register_of Behind = 0

-- the serial that a hold names
abbrev pub serial_of : Hold → ℕ
serial_of (Operand r j) = j
serial_of (Board t j) = j
serial_of (Custom r j) = j
serial_of (Late j) = j
serial_of Trap = 0
serial_of (Drain j) = j
serial_of (Wait left) = 0
serial_of (StoreAhead j) = j
serial_of (Tail left) = 0
serial_of (UnitFull u) = 0
serial_of (Port j) = j
serial_of Behind = 0

-- h comes before g or is it: by the kinds, then by the registers, then by the serials
abbrev pub ComesFirst : Hold → Hold → Type 0
ComesFirst h g =
    (kind_of h < kind_of g)
    ⊎ ((kind_of h ≡ kind_of g) × ((register_of h < register_of g) ⊎ ((register_of h ≡ register_of g) × (serial_of h ≤ serial_of g))))

-- Forms

-- the serials that are there
abbrev pub given : List (Option ℕ) → List ℕ
given [] = []
given (None ∷ rest) = given rest
given (Some s ∷ rest) = s ∷ given rest

-- serials in five places, the first ones
abbrev pub in_five : List ℕ → List (Option ℕ)
in_five serials = map Some serials ++ replicate (5 - length serials) None

-- each serial is above this one, where there is one, and above those before it
abbrev pub AscendFrom : Option ℕ → List ℕ → Type 0
AscendFrom last [] = Unit {0}
AscendFrom None (s ∷ rest) = AscendFrom (Some s) rest
AscendFrom (Some t) (s ∷ rest) = (t < s) × AscendFrom (Some s) rest
