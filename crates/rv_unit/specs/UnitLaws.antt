-- The one list of entries against the units of a design, and what a bound on rows needs of it (this project's choice).
use Rattle.std.specs.Prelude.{◌≡◌, ◌≢◌, ℕ, suc, ◌+◌, ◌<◌, ◌≤◌, true, false, List, [], ◌∷◌, length, map, Option, Some, None, slice_get}
use Rattle.ix_plan.specs.declared.design.Plan.{Plan}
use Rattle.ix_plan.specs.declared.design.Target.{Target}
use Rattle.ix_plan.specs.Units.{Slots, unit_written, frozen_with, next_units, first_units}
use Rattle.rv_unit.specs.declared.entry.Entry.{Entry}
use Rattle.rv_unit.specs.Numbering.{is_decoupled, lasts_of, unit_of}
use Rattle.rv_unit.specs.Entries.{last_time, writer, does_write, written_among, written_entry, unit_and_serial, is_frozen, stepped, next_entries}
use Rattle.rv_unit.specs.Timed.{AreUnits, IsTimed, CanEnter, room}
use Rattle.rv_unit.specs.Slots.{units_of}
use Rattle.rv_unit.specs.Reservations.{IsTarget, holder_of, reserved, freed}

-- at first nothing stands in the units of a design
abbrev pub FirstLaw : Type 0
FirstLaw = (stages : ℕ) (plans : List Plan) → units_of stages (lasts_of plans) [] ≡ first_units stages plans

-- the unit of a behaviour is among the units, with the last time of the behaviour
abbrev pub NumberingLaw : Type 0
NumberingLaw =
    (plans : List Plan) (n u : ℕ) (p : Plan) → unit_of plans n ≡ Some u → slice_get plans n ≡ Some p →
    (u < length (lasts_of plans)) × (last_time (lasts_of plans) u ≡ p.last)

-- the units of a design can be, where its plans are few and the decoupled ones end past the last stage and by time 64
abbrev pub UnitsLaw : Type 0
UnitsLaw =
    (stages : ℕ) (plans : List Plan) → length plans ≤ 72 →
    ((n : ℕ) (p : Plan) → slice_get plans n ≡ Some p → is_decoupled p.mode ≡ true → (stages ≤ p.last) × (p.last ≤ 64)) →
    AreUnits stages (lasts_of plans)

-- no two behaviours have one unit
abbrev pub ApartLaw : Type 0
ApartLaw = (plans : List Plan) (n m u : ℕ) → unit_of plans n ≡ Some u → unit_of plans m ≡ Some u → n ≡ m

-- the unit that is written in a row, and the serial
abbrev pub WrittenLaw : Type 0
WrittenLaw =
    (stages : ℕ) (lasts : List ℕ) (entries : List Entry) → AreUnits stages lasts → IsTimed stages lasts entries →
    unit_written (units_of stages lasts entries) ≡ unit_and_serial (written_entry lasts entries)

-- the units that are frozen in a row
abbrev pub FrozenLaw : Type 0
FrozenLaw =
    (stages : ℕ) (lasts : List ℕ) (entries : List Entry) (u : ℕ) (slots : Slots) → AreUnits stages lasts → IsTimed stages lasts entries →
    slice_get (units_of stages lasts entries) u ≡ Some slots →
    frozen_with u slots (unit_written (units_of stages lasts entries)) ≡ is_frozen lasts entries u

-- the units a row later
abbrev pub NextLaw : Type 0
NextLaw =
    (stages : ℕ) (lasts : List ℕ) (entries : List Entry) (enter : Option (ℕ × ℕ)) → AreUnits stages lasts → IsTimed stages lasts entries →
    CanEnter lasts entries enter →
    next_units enter (units_of stages lasts entries) ≡ units_of stages lasts (next_entries stages lasts enter entries)

-- a row later no two entries stand in one place, and none is past the last time of its unit
abbrev pub TimedLaw : Type 0
TimedLaw =
    (stages : ℕ) (lasts : List ℕ) (entries : List Entry) (enter : Option (ℕ × ℕ)) → AreUnits stages lasts → IsTimed stages lasts entries →
    CanEnter lasts entries enter → IsTimed stages lasts (next_entries stages lasts enter entries)

-- beside an entry that writes none of the older ones does
abbrev pub AloneLaw : Type 0
AloneLaw =
    (stages : ℕ) (lasts : List ℕ) (all : List Entry) (e : Entry) (older : List Entry) → IsTimed stages lasts (e ∷ older) →
    does_write lasts all e ≡ true → written_among lasts all older ≡ None

-- there are no more entries than the units have times
abbrev pub RoomLaw : Type 0
RoomLaw = (stages : ℕ) (lasts : List ℕ) (entries : List Entry) → AreUnits stages lasts → IsTimed stages lasts entries → length entries ≤ room stages lasts

abbrev pub one_later : Entry → Entry
one_later e = record { serial = e.serial; unit = e.unit; time = suc e.time }

-- where no entry is at the last time of its unit, no unit is frozen and each entry goes one time on
abbrev pub GoesOnLaw : Type 0
GoesOnLaw =
    (lasts : List ℕ) (entries : List Entry) → writer lasts entries ≡ None →
    ((u : ℕ) → is_frozen lasts entries u ≡ false) × (stepped lasts entries entries ≡ map one_later entries)

-- where a unit writes, one entry leaves
abbrev pub LeavesLaw : Type 0
LeavesLaw =
    (stages : ℕ) (lasts : List ℕ) (entries : List Entry) (u : ℕ) → AreUnits stages lasts → IsTimed stages lasts entries → writer lasts entries ≡ Some u →
    length (stepped lasts entries entries) + 1 ≡ length entries

-- the holder of a register is the last one that reserved it, unless it was freed
pub record BoardLaw : Type 0 where
  pub reserves : (board : List (Option ℕ)) (t : Target) (serial : ℕ) → length board ≡ 48 → IsTarget t → holder_of (reserved board t serial) t ≡ Some serial
  pub frees : (board : List (Option ℕ)) (t : Target) → length board ≡ 48 → IsTarget t → holder_of (freed board t) t ≡ None
  pub keeps_reserved : (board : List (Option ℕ)) (t other : Target) (serial : ℕ) → IsTarget t → IsTarget other → other ≢ t →
      holder_of (reserved board t serial) other ≡ holder_of board other
  pub keeps_freed : (board : List (Option ℕ)) (t other : Target) → IsTarget t → IsTarget other → other ≢ t →
      holder_of (freed board t) other ≡ holder_of board other
