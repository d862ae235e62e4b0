-- The first true hold of a cell as it is reckoned from the row, what is known of it, and what is owed (this project's choice). `older` has the instructions that stand above it.
use Rattle.std.specs.Prelude.{◌≡◌, ℕ, zero, suc, ◌+◌, ◌-◌, ◌<◌, List, [], ◌∷◌, get_or, Option, Some, None, Bool, true, false, ◌&&◌, ◌||◌, not, if◌then◌else◌, ◌==◌, nat_lt, is_some, min, max}
use Rattle.std.specs.Option.{option_or}
use Rattle.ix_plan.specs.declared.design.Target.{Target}
use Rattle.ix_plan.specs.declared.design.Target.TheVariants.{X}
use Rattle.ix_plan.specs.declared.design.Target.TheVariants as target
use Rattle.rv_asks.specs.declared.asks.Asks.{Asks}
use Rattle.rv_core.specs.declared.Shape.{Shape}
use Rattle.rv_trace.specs.declared.row.Cell.{Cell}
use Rattle.rv_trace.specs.declared.row.Row.{Row}
use Rattle.rv_trace.specs.declared.row.Hold.{Hold}
use Rattle.rv_trace.specs.declared.row.Hold.TheVariants.{Operand, Board, Custom, Late, Drain, Wait, StoreAhead, Tail, UnitFull, Port, Behind}
use Rattle.rv_trace.specs.Trace.{has_serial, retires, newest}
use Rattle.rv_lawful.specs.Settings.{Setting, Stands}
use Rattle.rv_lawful.specs.LawfulTrace.{reads_of}
use Rattle.rv_lawful.specs.Outstanding.{is_register, has_target, touches, is_serial, serial_written}
use Rattle.rv_rows.specs.Kinds.{is_of_cell}
use Rattle.rv_rows.specs.declared.known.Known.{Known}
use Rattle.rv_rows.specs.declared.known.Owed.{Owed}
use Rattle.rv_holdings.specs.declared.want.Want.{Want}
use Rattle.rv_holdings.specs.declared.want.Want.TheVariants as want

-- each instruction names registers that there are: 32 of the base as `spawn` targets, and 16 custom ones
pub record NamesRegisters (k : Setting) : Type 0 where
  pub spawned : (word r : ℕ) → is_register (k.asks word).spawned r ≡ true → r < 32
  pub customs : (word c : ℕ) → get_or (k.asks word).customs c false ≡ true → c < 16

-- Instructions above

abbrev pub owed_by : ℕ → Option Asks → Option Owed
owed_by serial None = None
owed_by serial (Some a) = Some (record { serial = serial; asks = a })

-- the instruction of a cell that is not flushed
abbrev pub instruction_in : List (Option ℕ) → Option Cell → Option Asks → Option Owed
instruction_in flushed None asks = None
instruction_in flushed (Some c) asks = if has_serial flushed c.serial then None else owed_by c.serial asks

-- the one that stands at a stage above this one
abbrev pub instruction_at : Shape → Row → Known → ℕ → ℕ → Option Owed
instruction_at k row known stage at =
    if nat_lt stage at && nat_lt at k.stages then instruction_in row.flushed (get_or row.cells at None) (get_or known.asks at None) else None

abbrev pub Older : Type 0
Older = List (Option Owed)

abbrev pub instructions_above : Shape → Row → Known → ℕ → Older
instructions_above k row known stage =
    instruction_at k row known stage 0
    ∷ instruction_at k row known stage 1
    ∷ instruction_at k row known stage 2
    ∷ instruction_at k row known stage 3
    ∷ instruction_at k row known stage 4
    ∷ []

-- What is looked for

-- a register by its number: those of the base, then the custom ones
abbrev pub register_at : ℕ → Target
register_at n = if nat_lt n 32 then X n else target.Custom (n - 32)

-- the registers that it names are there
abbrev pub IsInRange : Want → Type 0
IsInRange (want.Operand r) = Unit {0}
IsInRange (want.Board n) = n < 48
IsInRange (want.Custom r) = r < 16
IsInRange want.Late = Unit {0}
IsInRange want.Drain = Unit {0}
IsInRange want.Store = Unit {0}

-- it writes this x register, and the value is not there yet for a younger one
abbrev pub does_withhold : Shape → ℕ → ℕ → Owed → Bool
does_withhold k r stage o = (o.asks.destination == r) && not (k.forward && nat_lt o.asks.x_time stage)

-- it is not retired by the end of the row, or has a unit and is not written by then
abbrev pub is_left : Row → Owed → Bool
is_left row o = not (retires row.retired o.serial) || (is_some o.asks.unit && not (is_serial (serial_written row.written) o.serial))

abbrev pub meets : Shape → Row → Want → ℕ → Owed → Bool
meets k row (want.Operand r) stage o = does_withhold k r stage o
meets k row (want.Board n) stage o = has_target o.asks (register_at n)
meets k row (want.Custom r) stage o = get_or o.asks.late_customs r false
meets k row want.Late stage o = o.asks.late
meets k row want.Drain stage o = is_left row o
meets k row want.Store stage o = o.asks.stores

-- the oldest of these, the first of which stands in this stage
abbrev pub oldest : Shape → Row → Want → ℕ → Older → Option ℕ
oldest k row w stage [] = None
oldest k row w stage (None ∷ older) = oldest k row w (suc stage) older
oldest k row w stage (Some o ∷ older) = option_or (oldest k row w (suc stage) older) (if meets k row w stage o then Some o.serial else None)

-- it owes the register of this number, or, without a number, is not written by the end of the row
abbrev pub owes_so : Row → Option ℕ → Owed → Bool
owes_so row None o = not (is_serial (serial_written row.written) o.serial)
owes_so row (Some n) o = has_target o.asks (register_at n)

abbrev pub still_owes : Row → Option ℕ → Owed → Bool
still_owes row number o = not (has_serial row.flushed o.serial) && owes_so row number o

-- the first that does, the oldest
abbrev pub first_owed : Row → Option ℕ → List Owed → Option ℕ
first_owed row number [] = None
first_owed row number (o ∷ owed) = if still_owes row number o then Some o.serial else first_owed row number owed

-- Holds, kind by kind

abbrev pub operand : ℕ → Option ℕ → Option Hold
operand r None = None
operand r (Some j) = Some (Operand r j)

abbrev pub waits_for : Shape → Row → ℕ → Older → Option Hold
waits_for k row r older = if r == 0 then None else operand r (oldest k row (want.Operand r) 0 older)

abbrev pub operand_hold : Shape → Row → ℕ → Asks → Older → Option Hold
operand_hold k row stage a older = if stage == k.rd then option_or (waits_for k row (min a.first a.second) older) (waits_for k row (max a.first a.second) older) else None

-- the first that there is of f r, f (r + 1), .., so many
abbrev pub first_from : (ℕ → Option Hold) → ℕ → ℕ → Option Hold
first_from f r zero = None
first_from f r (suc n) = option_or (f r) (first_from f (suc r) n)

abbrev pub spawner : Shape → Row → List Owed → Older → ℕ → Option ℕ
spawner k row owed older n = option_or (first_owed row (Some n) owed) (oldest k row (want.Board n) 0 older)

abbrev pub board : ℕ → Option ℕ → Option Hold
board n None = None
board n (Some j) = Some (Board (register_at n) j)

abbrev pub board_at : Shape → Row → List Owed → Asks → Older → ℕ → Option Hold
board_at k row owed a older n = if touches a (register_at n) then board n (spawner k row owed older n) else None

-- how many registers there are, and how many of them are custom ones
unfoldable pub register_count : ℕ
register_count = 48

unfoldable pub custom_count : ℕ
custom_count = 16

abbrev pub board_hold : Shape → Row → List Owed → ℕ → Asks → Older → Option Hold
board_hold k row owed stage a older = if stage == k.rd then first_from (board_at k row owed a older) 0 register_count else None

abbrev pub custom : ℕ → Option ℕ → Option Hold
custom r None = None
custom r (Some j) = Some (Custom r j)

abbrev pub custom_at : Shape → Row → Asks → Older → ℕ → Option Hold
custom_at k row a older r = if get_or a.customs r false then custom r (oldest k row (want.Custom r) 0 older) else None

abbrev pub custom_hold : Shape → Row → ℕ → Asks → Older → Option Hold
custom_hold k row stage a older = if stage == k.ex then first_from (custom_at k row a older) 0 custom_count else None

abbrev pub late : Option ℕ → Option Hold
late None = None
late (Some j) = Some (Late j)

abbrev pub late_hold : Shape → Row → ℕ → Older → Option Hold
late_hold k row stage older = if stage == k.ex then late (oldest k row want.Late 0 older) else None

abbrev pub drain : Option ℕ → Option Hold
drain None = None
drain (Some j) = Some (Drain j)

abbrev pub drain_hold : Shape → Row → Known → List Owed → ℕ → Older → Option Hold
drain_hold k row known owed stage older =
    if (stage == k.ex) && is_some known.stop then drain (option_or (first_owed row None owed) (oldest k row want.Drain 0 older)) else None

abbrev pub memory_hold : Shape → Known → ℕ → Option Hold
memory_hold k known stage = if (stage == k.mem) && (known.accesses && nat_lt known.stood known.wait) then Some (Wait (known.wait - known.stood)) else None

abbrev pub store_ahead : Option ℕ → Option Hold
store_ahead None = None
store_ahead (Some j) = Some (StoreAhead j)

abbrev pub store_hold : Shape → Row → ℕ → Asks → Older → Option Hold
store_hold k row stage a older = if (stage == k.mem) && a.loads then store_ahead (oldest k row want.Store 0 older) else None

abbrev pub tail_hold : Shape → Known → ℕ → Asks → Option Hold
tail_hold k known stage a = if (suc stage == k.stages) && nat_lt known.tailed a.tail then Some (Tail (a.tail - known.tailed)) else None

abbrev pub unit_full : Option ℕ → Option Hold
unit_full None = None
unit_full (Some u) = Some (UnitFull u)

abbrev pub unit_hold : Shape → Known → ℕ → Asks → Option Hold
unit_hold k known stage a = if (suc stage == k.stages) && known.frozen then unit_full a.unit else None

abbrev pub port : Option ℕ → Option Hold
port None = None
port (Some j) = Some (Port j)

abbrev pub port_hold : Shape → Row → Known → ℕ → Asks → Option Hold
port_hold k row known stage a = if (suc stage == k.stages) && (not (a.destination == 0) && known.port) then port (serial_written row.written) else None

-- the first true one but Behind
abbrev pub own_hold : Shape → Row → Known → List Owed → ℕ → Asks → Older → Option Hold
own_hold k row known owed stage a older =
    option_or (option_or (option_or (option_or (option_or (option_or (option_or (option_or (option_or
    (operand_hold k row stage a older)
    (board_hold k row owed stage a older))
    (custom_hold k row stage a older))
    (late_hold k row stage older))
    (drain_hold k row known owed stage older))
    (memory_hold k known stage))
    (store_hold k row stage a older))
    (tail_hold k known stage a))
    (unit_hold k known stage a))
    (port_hold k row known stage a)

-- the same of what asks for this
abbrev pub own_at : Shape → Row → Known → List Owed → ℕ → Option Asks → Option Hold
own_at k row known owed stage None = None
own_at k row known owed stage (Some a) = own_hold k row known owed stage a (instructions_above k row known stage)

-- Behind

-- the row says that what stands in this stage stops the run
abbrev pub does_stop : Shape → Row → ℕ → Bool
does_stop k row stage = (stage == k.ex) && is_of_cell row.stop

-- there is a cell in this stage that is held or stops the run
abbrev pub blocks : Shape → Row → ℕ → Option Cell → Bool
blocks k row stage None = false
blocks k row stage (Some c) = is_some c.hold || does_stop k row stage

-- the next stage has one
abbrev pub is_blocked : Shape → Row → ℕ → Bool
is_blocked k row stage = nat_lt (stage + 1) k.stages && blocks k row (stage + 1) (get_or row.cells (stage + 1) None)

abbrev pub behind_hold : Shape → Row → ℕ → Option Hold
behind_hold k row stage = if nat_lt stage 4 && is_blocked k row stage then Some Behind else None

-- The first true hold

abbrev pub expected : Shape → Row → Known → List Owed → ℕ → Asks → Option Hold
expected k row known owed stage a = option_or (own_hold k row known owed stage a (instructions_above k row known stage)) (behind_hold k row stage)

-- this is the hold that is expected of the instruction of the stage
abbrev pub AsExpected : Shape → Row → Known → List Owed → ℕ → Option Hold → Type 0
AsExpected k row known owed stage hold = (a : Asks) → get_or known.asks stage None ≡ Some a → hold ≡ expected k row known owed stage a

-- the cell of a stage shows it, where it is not flushed and does not stop the run
abbrev pub IsRightAt : Shape → Row → Known → List Owed → ℕ → Type 0
IsRightAt k row known owed stage =
    stage < k.stages → (c : Cell) → get_or row.cells stage None ≡ Some c → has_serial row.flushed c.serial ≡ false → does_stop k row stage ≡ false → AsExpected k row known owed stage c.hold

abbrev pub AreRight : Shape → Row → Known → List Owed → Type 0
AreRight k row known owed = (stage : ℕ) → stage < 5 → IsRightAt k row known owed stage

-- Behind a stop

-- this is the instruction that stopped the run; there is none where a fetch did
abbrev pub IsStopper : Setting → List Row → Option Owed → Type 0
IsStopper k rows stopped =
    ((c : Cell) → is_of_cell (newest rows).stop ≡ true → Stands k (newest rows) k.shape.ex c → stopped ≡ Some (record { serial = c.serial; asks = k.asks c.word }))
    × (is_of_cell (newest rows).stop ≡ false → stopped ≡ None)

-- this is what the instruction at RD asks for
abbrev pub AsksAtRead : Setting → Row → Asks → Type 0
AsksAtRead k row a = (c : Cell) → Stands k row k.shape.rd c → a ≡ k.asks c.word

-- the x register of the one that stopped is not there yet for a younger one: on a core that forwards it has to stand in EX, before the time of the write
abbrev pub is_withheld : Shape → Row → Owed → Bool
is_withheld k row o = not k.forward || (is_some (get_or row.cells k.ex None) && not (nat_lt o.asks.x_time k.ex))

-- the instruction waits for that register
abbrev pub operand_behind : Shape → Row → Asks → Owed → Option Hold
operand_behind k row a o = if reads_of a o.asks.destination && is_withheld k row o then Some (Operand o.asks.destination o.serial) else None

-- or for one that it has as `spawn` target
abbrev pub board_behind : Shape → Row → Asks → Owed → Option Hold
board_behind k row a o = first_from (board_at k row [] a (Some o ∷ [])) 0 register_count

-- the first true hold but Behind of what stands in a stage: nothing but the one that stopped is waited for, and only at RD below EX
abbrev pub own_behind : Shape → Row → ℕ → Asks → Option Owed → Option Hold
own_behind k row stage a None = None
own_behind k row stage a (Some o) =
    if (stage == k.rd) && (nat_lt stage k.ex && not (has_serial row.flushed o.serial)) then option_or (operand_behind k row a o) (board_behind k row a o) else None

abbrev pub expected_behind : Shape → Row → ℕ → Asks → Option Owed → Option Hold
expected_behind k row stage a stopped = option_or (own_behind k row stage a stopped) (behind_hold k row stage)

-- the cell of a stage shows it, where it is not flushed and does not stop the run
abbrev pub IsRightBehind : Shape → Row → Asks → Option Owed → ℕ → Type 0
IsRightBehind k row a stopped stage =
    stage < k.stages → (c : Cell) → get_or row.cells stage None ≡ Some c → has_serial row.flushed c.serial ≡ false → does_stop k row stage ≡ false → c.hold ≡ expected_behind k row stage a stopped

abbrev pub AreRightBehind : Shape → Row → Asks → Option Owed → Type 0
AreRightBehind k row a stopped = (stage : ℕ) → stage < 5 → IsRightBehind k row a stopped stage
