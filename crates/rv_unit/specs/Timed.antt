-- Units and times that can be: none stands where another of its unit does (this project's choice).
use Rattle.std.specs.Prelude.{◌≡◌, ℕ, ◌+◌, ◌-◌, ◌<◌, ◌≤◌, false, List, [], ◌∷◌, length, All, Option, Some, None}
use Rattle.rv_unit.specs.declared.entry.Entry.{Entry}
use Rattle.rv_unit.specs.Entries.{last_time, is_frozen}

-- at most 72 units, each with a last time past the last stage and up to 64
pub record AreUnits (stages : ℕ) (lasts : List ℕ) : Type 0 where
  pub few : length lasts ≤ 72
  pub first : All (λ last. stages ≤ last) lasts
  pub most : All (λ last. last ≤ 64) lasts

-- the entry stands in a unit, at one of its times
pub record IsEntry (stages : ℕ) (lasts : List ℕ) (e : Entry) : Type 0 where
  pub below : e.unit < length lasts
  pub first : stages ≤ e.time
  pub last : e.time ≤ last_time lasts e.unit

-- the entry stands at a lower time than each of these in the same unit
abbrev pub IsBehind : Entry → List Entry → Type 0
IsBehind e [] = Unit
IsBehind e (p ∷ rest) = (p.unit ≡ e.unit → e.time < p.time) × IsBehind e rest

-- each entry stands in a unit at one of its times, and within a unit times fall from older ones to newer ones
abbrev pub IsTimed : ℕ → List ℕ → List Entry → Type 0
IsTimed stages lasts [] = Unit
IsTimed stages lasts (e ∷ rest) = IsEntry stages lasts e × IsBehind e rest × IsTimed stages lasts rest

-- what enters, if anything, has a unit, which is not frozen
abbrev pub CanEnter : List ℕ → List Entry → Option (ℕ × ℕ) → Type 0
CanEnter lasts all None = Unit
CanEnter lasts all (Some (unit, serial)) = (unit < length lasts) × (is_frozen lasts all unit ≡ false)

-- how many times the units have
abbrev pub room : ℕ → List ℕ → ℕ
room stages [] = 0
room stages (last ∷ lasts) = (last + 1 - stages) + room stages lasts
