-- What is known of the instructions of a design that have a unit (this project's choice).
use Rattle.std.specs.Prelude.{◌≡◌, ℕ, ◌<◌, length, Some, is_some, true}
use Rattle.ix_extension.specs.Extensions.{view_extension}
use Rattle.ix_plan.specs.declared.design.Design.{Design}
use Rattle.ix_plan.specs.declared.design.Target.{Target}
use Rattle.ix_plan.specs.declared.design.Target.TheVariants.{Custom}
use Rattle.rv_unit.specs.Numbering.{lasts_of}
use Rattle.rv_unit.specs.Timed.{AreUnits}
use Rattle.rv_lawful.specs.Outstanding.{has_target, touches}
use Rattle.rv_lawful.specs.Sight.{asked}

-- the units of a design can be; an instruction whose `spawn` body writes a register has a unit, and touches that register; each unit is one of the design's; an instruction with a unit
-- writes a register by `spawn`; and a custom register that one so writes is one of the extension's
pub record AreInUnits (d : Design) : Type 0 where
  pub units : AreUnits d.sheet.shape.stages (lasts_of d.plans)
  pub spawning : (word : ℕ) (t : Target) → has_target (asked d word) t ≡ true → is_some (asked d word).unit ≡ true
  pub touching : (word : ℕ) (t : Target) → has_target (asked d word) t ≡ true → touches (asked d word) t ≡ true
  pub numbering : (word u : ℕ) → (asked d word).unit ≡ Some u → u < length (lasts_of d.plans)
  pub having : (word u : ℕ) → (asked d word).unit ≡ Some u → (t : Target) × (has_target (asked d word) t ≡ true)
  pub few : (word c : ℕ) → has_target (asked d word) (Custom c) ≡ true → c < length (view_extension d.extension).registers
