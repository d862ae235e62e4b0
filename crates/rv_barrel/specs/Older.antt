-- Which older instructions are looked for (this project's choice).
use Rattle.std.specs.Prelude.{ℕ, ◌<◌, List, filter, suc, get_or, Option, Some, None, Bool, true, false, not, ◌==◌, ◌&&◌, ◌||◌, is_none, if◌then◌else◌}
use Rattle.rv_asks.specs.declared.asks.Asks.{Asks}
use Rattle.rv_harts.specs.Harts.{Fetched}
use Rattle.rv_holds.specs.Holds.{register_at}
use Rattle.rv_holds.specs.Meets.{has_targets}
use Rattle.rv_lawful.specs.Outstanding.{has_target}
use Rattle.rv_lawful.specs.Settings.{Setting}
use Rattle.rv_unit.specs.Entries.{is_number}
use Rattle.rv_barrel.specs.declared.cell.InFlight.{InFlight}
use Rattle.rv_barrel.specs.declared.older.Wanted.{Wanted}
use Rattle.rv_barrel.specs.declared.older.Wanted.TheVariants.{Destination, Either, Target, Spawner, LateCustom, Late, InUnit, Any}

-- there is such a register
abbrev pub IsWanted : Wanted → Type 0
IsWanted (Destination r) = Unit
IsWanted (Either r s) = Unit
IsWanted (Target n) = n < 48
IsWanted Spawner = Unit
IsWanted (LateCustom r) = r < 16
IsWanted Late = Unit
IsWanted (InUnit u) = Unit
IsWanted Any = Unit

-- what is asked of an instruction that is looked for
abbrev pub meets : Wanted → Asks → Bool
meets (Destination r) a = a.destination == r
meets (Either r s) a = not (a.destination == 0) && ((a.destination == r) || (a.destination == s))
meets (Target n) a = has_target a (register_at n)
meets Spawner a = has_targets a
meets (LateCustom r) a = get_or a.late_customs r false
meets Late a = a.late
meets (InUnit u) a = is_number a.unit u
meets Any a = true

-- the same of what is fetched
abbrev pub asked_so : Setting → Wanted → Fetched → Bool
asked_so k wanted c = meets wanted (k.asks c.word)

-- these without the one that is written in the row, if any
abbrev pub kept_of : Option ℕ → List Fetched → List Fetched
kept_of out all = filter (λ (c : Fetched). not (is_number out c.serial)) all

-- whatever it is
abbrev pub any_one : Fetched → Bool
any_one c = true

-- the serial of what stands in a slot, if it is looked for
abbrev pub serial_so : Wanted → Option InFlight → Option ℕ
serial_so wanted None = None
serial_so wanted (Some c) = if meets wanted c.asks then Some c.serial else None

-- it retires in this stage, with nothing to be written later
abbrev pub does_end : ℕ → ℕ → Asks → Bool
does_end stages stage a = (suc stage == stages) && is_none a.unit

-- the serial of what stands in a slot of this stage, unless it is done by the end of the row
abbrev pub serial_left : ℕ → ℕ → Option InFlight → Option ℕ
serial_left stages stage None = None
serial_left stages stage (Some c) = if does_end stages stage c.asks then None else Some c.serial
