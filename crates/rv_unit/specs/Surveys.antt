-- What is found once a row of the entries (this project's choice).
use Rattle.std.specs.Prelude.{◌≡◌, ℕ, suc, ◌+◌, ◌<◌, ◌≤◌, Bool, false, ◌&&◌, not, if◌then◌else◌, List, [], ◌∷◌, ◌++◌, length, take, drop, Option, Some, None, slice_index_or}
use Rattle.rv_unit.specs.declared.entry.Entry.{Entry}
use Rattle.rv_unit.specs.declared.survey.Survey.{Survey}
use Rattle.rv_unit.specs.Entries.{has_finished, writer, is_number, does_write, written_entry, cons_unless}
use Rattle.rv_unit.specs.Standing.{Standing}
use Rattle.rv_unit.specs.Timed.{AreUnits, IsTimed, room}

-- the survey tells of these entries which units have one at its last time, and which unit writes
pub record IsSurvey (lasts : List ℕ) (entries : List Entry) (s : Survey) : Type 0 where
  pub granted : s.granted ≡ writer lasts entries
  pub whole : length s.finished ≡ 72
  pub finished : (u : ℕ) → u < 72 → slice_index_or s.finished u false ≡ has_finished lasts u entries

-- the survey finds the unit frozen
abbrev pub is_frozen_by : Survey → ℕ → Bool
is_frozen_by s u = slice_index_or s.finished u false && not (is_number s.granted u)

-- the entry a row later, as the survey finds it
abbrev pub moved_by : Survey → Entry → Entry
moved_by s e = record { serial = e.serial; unit = e.unit; time = if is_frozen_by s e.unit then e.time else suc e.time }

-- the entry has room for one more time
pub record HasNext (e : Entry) : Type 0 where
  pub unit : e.unit < 72
  pub time : e.time ≤ 64

-- some entries without the one that writes, where all these stand in units
abbrev pub staying : List ℕ → List Entry → List Entry → List Entry
staying lasts all [] = []
staying lasts all (e ∷ rest) = cons_unless (does_write lasts all e) e (staying lasts all rest)

-- the entry that writes, where all these stand in units, is the k-th
pub record IsWrittenAt (lasts : List ℕ) (all : List Entry) (k : ℕ) : Type 0 where
  pub below : k < length all
  pub written : (d : Entry) → written_entry lasts all ≡ Some (slice_index_or all k d)
  pub others : staying lasts all all ≡ take k all ++ staying lasts all (drop (k + 1) all)

-- where the entry that writes stands, if any does
abbrev pub IsWrittenPlace : List ℕ → List Entry → Option ℕ → Type 0
IsWrittenPlace lasts all None = written_entry lasts all ≡ None
IsWrittenPlace lasts all (Some k) = IsWrittenAt lasts all k

-- the units can be, the survey is that of the entries, and there is room for all that can stand in the units
pub record AreKept (s : Standing) (found : Survey) (places : ℕ) : Type 0 where
  pub units : AreUnits s.stages s.lasts
  pub timed : IsTimed s.stages s.lasts s.entries
  pub survey : IsSurvey s.lasts s.entries found
  pub capacity : room s.stages s.lasts ≤ places
