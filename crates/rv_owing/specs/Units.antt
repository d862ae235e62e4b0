-- What is asked of a setting so that what is outstanding can be followed (this project's choice).
use Rattle.std.specs.Prelude.{◌≡◌, ℕ, ◌<◌, List, [], length, Some, true, is_some}
use Rattle.ix_plan.specs.declared.design.Target.{Target}
use Rattle.rv_unit.specs.Slots.{units_of}
use Rattle.rv_unit.specs.Timed.{AreUnits}
use Rattle.rv_lawful.specs.Settings.{Setting}
use Rattle.rv_lawful.specs.Outstanding.{has_target}
use Rattle.rv_rows.specs.Laws.{AreEmptyUnits}

-- the units of a setting are empty before the first row, and have these last times
pub record AreTimes (k : Setting) (lasts : List ℕ) : Type 0 where
  pub can_be : AreUnits k.shape.stages lasts
  pub first : k.units ≡ units_of k.shape.stages lasts []

-- the units are empty before the first row, each with a last time past the last stage; the unit of an instruction is one of them; and an instruction with a `spawn` body has one
pub record HasUnits (k : Setting) : Type 0 where
  pub empty : AreEmptyUnits k.units
  pub times : (lasts : List ℕ) × AreTimes k lasts
  pub below : (word u : ℕ) → (k.asks word).unit ≡ Some u → u < length k.units
  pub spawning : (word : ℕ) (t : Target) → has_target (k.asks word) t ≡ true → is_some (k.asks word).unit ≡ true
