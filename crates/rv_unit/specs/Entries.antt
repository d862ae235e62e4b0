-- What stands in units as one list, the newest first, in the order of retirement (SCAIE-V, decoupled execution; that the lowest unit writes, and that a
-- unit which has to wait stands still, is this project's choice).
use Rattle.std.specs.Prelude.{ℕ, suc, Bool, true, false, ◌&&◌, ◌||◌, not, if◌then◌else◌, ◌==◌, List, [], ◌∷◌, ◌++◌, Option, Some, None, slice_index, min}
use Rattle.rv_unit.specs.declared.entry.Entry.{Entry}

-- the last time of a unit, among the last times of all
abbrev pub last_time : List ℕ → ℕ → ℕ
last_time lasts u = slice_index lasts u

-- the entry is at the last time of its unit
abbrev pub is_finished : List ℕ → Entry → Bool
is_finished lasts e = e.time == last_time lasts e.unit

-- the unit has an entry at its last time
abbrev pub has_finished : List ℕ → ℕ → List Entry → Bool
has_finished lasts u [] = false
has_finished lasts u (e ∷ rest) = (is_finished lasts e && (e.unit == u)) || has_finished lasts u rest

-- the lower one of a unit and another, if there is another
abbrev pub lower : ℕ → Option ℕ → ℕ
lower u None = u
lower u (Some w) = min u w

-- the lowest unit with an entry at its last time
abbrev pub writer : List ℕ → List Entry → Option ℕ
writer lasts [] = None
writer lasts (e ∷ rest) = if is_finished lasts e then Some (lower e.unit (writer lasts rest)) else writer lasts rest

-- it is this number
abbrev pub is_number : Option ℕ → ℕ → Bool
is_number None u = false
is_number (Some w) u = w == u

-- the unit has an entry at its last time, and is not the one that writes
abbrev pub is_frozen : List ℕ → List Entry → ℕ → Bool
is_frozen lasts all u = has_finished lasts u all && not (is_number (writer lasts all) u)

-- the entry writes, where all these stand in units
abbrev pub does_write : List ℕ → List Entry → Entry → Bool
does_write lasts all e = is_finished lasts e && is_number (writer lasts all) e.unit

-- the first of some entries that writes, where all these stand in units
abbrev pub written_among : List ℕ → List Entry → List Entry → Option Entry
written_among lasts all [] = None
written_among lasts all (e ∷ rest) = if does_write lasts all e then Some e else written_among lasts all rest

-- the entry that writes
abbrev pub written_entry : List ℕ → List Entry → Option Entry
written_entry lasts all = written_among lasts all all

-- the unit and the serial of an entry
abbrev pub unit_and_serial : Option Entry → Option (ℕ × ℕ)
unit_and_serial None = None
unit_and_serial (Some e) = Some (e.unit, e.serial)

-- the entry a row later: one time on, unless its unit is frozen
abbrev pub moved : List ℕ → List Entry → Entry → Entry
moved lasts all e = record { serial = e.serial; unit = e.unit; time = if is_frozen lasts all e.unit then e.time else suc e.time }

-- an entry before others, unless it has left
abbrev pub cons_unless : Bool → Entry → List Entry → List Entry
cons_unless true e entries = entries
cons_unless false e entries = e ∷ entries

-- some entries a row later, where all these stand in units: the one that writes has left
abbrev pub stepped : List ℕ → List Entry → List Entry → List Entry
stepped lasts all [] = []
stepped lasts all (e ∷ rest) = cons_unless (does_write lasts all e) (moved lasts all e) (stepped lasts all rest)

-- what retires in a row stands in its unit one time past the last stage
abbrev pub entered : ℕ → Option (ℕ × ℕ) → List Entry
entered stages None = []
entered stages (Some (unit, serial)) = record { serial = serial; unit = unit; time = stages } ∷ []

-- what stands in units a row later, where this unit and serial, if any, enter
abbrev pub next_entries : ℕ → List ℕ → Option (ℕ × ℕ) → List Entry → List Entry
next_entries stages lasts enter all = entered stages enter ++ stepped lasts all all
