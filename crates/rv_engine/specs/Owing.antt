-- What is outstanding beside the stages: what stands in units, and what each of these still writes (SCAIE-V, decoupled execution; that a unit's write takes the port of the
-- register file before the instruction of the last stage is this project's choice).
use Rattle.std.specs.Prelude.{◌≡◌, ℕ, suc, List, [], ◌∷◌, ◌++◌, Option, Some, None, Bool, if◌then◌else◌, ◌==◌, is_some}
use Rattle.ix_plan.specs.declared.design.Design.{Design}
use Rattle.rv_core.specs.declared.Shape.{Shape}
use Rattle.rv_asks.specs.declared.asks.Asks.{Asks}
use Rattle.rv_lawful.specs.Outstanding.{has_target, touches}
use Rattle.rv_trace.specs.declared.row.Hold.{Hold}
use Rattle.rv_trace.specs.declared.row.Hold.TheVariants.{UnitFull, Port}
use Rattle.rv_unit.specs.declared.entry.Entry.{Entry}
use Rattle.rv_unit.specs.Entries.{is_frozen, does_write, next_entries}
use Rattle.rv_unit.specs.Numbering.{lasts_of}
use Rattle.rv_holds.specs.declared.token.Beside.{Beside}
use Rattle.rv_holds.specs.Tokens.{or_else}
use Rattle.rv_holds.specs.Holds.{register_count, register_at, least_from}
use Rattle.rv_engine.specs.declared.owing.Owed.{Owed}

-- the count of the stages, the last time of each unit, what stands in units, and what each of these still writes, both the newest first
pub record Outstanding : Type 0 where
  pub stages : ℕ
  pub lasts : List ℕ
  pub entries : List Entry
  pub owed : List Owed

-- the units of a design, in which these stand
abbrev pub outstanding_of : Design → List Entry → List Owed → Outstanding
outstanding_of d entries owed = record { stages = d.sheet.shape.stages; lasts = lasts_of d.plans; entries = entries; owed = owed }

-- they are the units of the design
pub record IsOwingOf (d : Design) (o : Outstanding) : Type 0 where
  pub stages : o.stages ≡ d.sheet.shape.stages
  pub lasts : o.lasts ≡ lasts_of d.plans

-- What a token meets

-- the oldest of these whose `spawn` body writes the register
abbrev pub holder : ℕ → List Owed → Option ℕ
holder n [] = None
holder n (o ∷ older) = or_else (holder n older) (if has_target o.asks (register_at n) then Some o.serial else None)

-- the same, where the instruction touches the register
abbrev pub holder_for : List Owed → Asks → ℕ → Option ℕ
holder_for owed a n = if touches a (register_at n) then holder n owed else None

-- the least register that the instruction touches and one of these owes, with the oldest that does
abbrev pub board_of : List Owed → Asks → Option (ℕ × ℕ)
board_of owed a = least_from (holder_for owed a) 0 register_count

-- what is owed by the one of some entries that writes, where all these stand in units
abbrev pub paying_among : List ℕ → List Entry → List Entry → List Owed → Option Owed
paying_among lasts all [] owed = None
paying_among lasts all (e ∷ entries) [] = None
paying_among lasts all (e ∷ entries) (o ∷ owed) = if does_write lasts all e then Some o else paying_among lasts all entries owed

-- what the others owe
abbrev pub unpaid_among : List ℕ → List Entry → List Entry → List Owed → List Owed
unpaid_among lasts all [] owed = []
unpaid_among lasts all (e ∷ entries) [] = []
unpaid_among lasts all (e ∷ entries) (o ∷ owed) = if does_write lasts all e then unpaid_among lasts all entries owed else o ∷ unpaid_among lasts all entries owed

-- what is written in a row
abbrev pub paying : Outstanding → Option Owed
paying o = paying_among o.lasts o.entries o.entries o.owed

-- what is not
abbrev pub unpaid : Outstanding → List Owed
unpaid o = unpaid_among o.lasts o.entries o.entries o.owed

-- the oldest serial of these
abbrev pub oldest_serial : List Owed → Option ℕ
oldest_serial [] = None
oldest_serial (o ∷ older) = or_else (oldest_serial older) (Some o.serial)

-- the unit that an instruction enters is frozen
abbrev pub unit_hold : Outstanding → Option ℕ → Option Hold
unit_hold o None = None
unit_hold o (Some u) = if is_frozen o.lasts o.entries u then Some (UnitFull u) else None

-- the serial that writes an x register in the row, x0 too
abbrev pub port_serial : Option Owed → Option ℕ
port_serial None = None
port_serial (Some o) = if is_some o.asks.spawned then Some o.serial else None

-- an x register can't be written beside it
abbrev pub port_hold : Option ℕ → ℕ → Option Hold
port_hold None destination = None
port_hold (Some j) destination = if destination == 0 then None else Some (Port j)

-- why an instruction can't retire beside the units
abbrev pub retiring_hold : Outstanding → Asks → Option Hold
retiring_hold o a = or_else (unit_hold o a.unit) (port_hold (port_serial (paying o)) a.destination)

-- what the token of a stage meets in a row of what is outstanding, where an interrupt is to be taken in it, or not
abbrev pub beside_of : Shape → Bool → Outstanding → ℕ → Asks → Beside
beside_of k interrupted o stage a =
    record {
      board = if stage == k.rd then board_of o.owed a else None;
      port = if suc stage == k.stages then retiring_hold o a else None;
      left = oldest_serial (unpaid o);
      trap = interrupted;
    }

-- The next row

-- the unit and the serial of what retires into a unit, if anything
abbrev pub unit_entered : Option (ℕ × Owed) → Option (ℕ × ℕ)
unit_entered None = None
unit_entered (Some enter) = Some (enter.0, enter.1.serial)

-- what it owes
abbrev pub owed_by_entering : Option (ℕ × Owed) → List Owed
owed_by_entering None = []
owed_by_entering (Some enter) = enter.1 ∷ []

abbrev pub entries_after : Outstanding → Option (ℕ × Owed) → List Entry
entries_after o enter = next_entries o.stages o.lasts (unit_entered enter) o.entries

abbrev pub owed_after : Outstanding → Option (ℕ × Owed) → List Owed
owed_after o enter = owed_by_entering enter ++ unpaid o

-- what is outstanding a row later, where this retires into a unit, if anything does
abbrev pub outstanding_after : Outstanding → Option (ℕ × Owed) → Outstanding
outstanding_after o enter = record { stages = o.stages; lasts = o.lasts; entries = entries_after o enter; owed = owed_after o enter }
