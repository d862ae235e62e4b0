-- The entries as slots, unit by unit and time by time (this project's choice).
use Rattle.std.specs.Prelude.{ℕ, zero, suc, ◌+◌, ◌-◌, ◌&&◌, if◌then◌else◌, ◌==◌, List, [], ◌∷◌, Option, Some, None}
use Rattle.ix_plan.specs.Units.{Slots}
use Rattle.rv_unit.specs.declared.entry.Entry.{Entry}

-- the serial of the entry in this unit at this time
abbrev pub serial_at : ℕ → ℕ → List Entry → Option ℕ
serial_at u t [] = None
serial_at u t (e ∷ rest) = if (e.unit == u) && (e.time == t) then Some e.serial else serial_at u t rest

-- the slots of a unit for so many times, of which t is the first
abbrev pub slots_from : ℕ → ℕ → ℕ → List Entry → Slots
slots_from u t zero entries = []
slots_from u t (suc count) entries = serial_at u t entries ∷ slots_from u (suc t) count entries

-- the slots of units with these last times, of which the first has the number u
abbrev pub units_from : ℕ → ℕ → List ℕ → List Entry → List Slots
units_from u stages [] entries = []
units_from u stages (last ∷ lasts) entries = slots_from u stages (last + 1 - stages) entries ∷ units_from (u + 1) stages lasts entries

-- the slots of all units, from one past the last stage to each unit's last time
abbrev pub units_of : ℕ → List ℕ → List Entry → List Slots
units_of stages lasts entries = units_from 0 stages lasts entries

-- the unit of a unit and a serial
abbrev pub unit_named : Option (ℕ × ℕ) → Option ℕ
unit_named None = None
unit_named (Some entry) = Some entry.0
