-- Laws of sweeps.
use Rattle.std.specs.Prelude.{◌≢◌, ℕ, List}
use Rattle.ix_extension.specs.Extensions.{ExtensionTree}
use Rattle.ix_sheet.specs.declared.sheet.Sheet.{Sheet}
use Rattle.ix_sheet.specs.Sheets.{IsValidSheet}
use Rattle.ix_schedules.specs.Scheduling.{behaviours_of}
use Rattle.ix_sweep.specs.Periods.{at_period}
use Rattle.ix_sweeps.specs.declared.sweeping.Swept.{Swept}
use Rattle.ix_sweeps.specs.declared.sweeping.SweepErr.{SweepErr}
use Rattle.ix_sweeps.specs.declared.sweeping.SweepErr.TheVariants.{Memory}
use Rattle.ix_sweeps.specs.Sweeping.{IsSwept, IsFirstLarge}
use Rattle.ix_sweeps.specs.SweepText.{AreFaultless, IsSweepText}
use Rattle.ix_behaviour.specs.declared.which.Which.{Which}

-- with another period in the sheet the text is the same
abbrev pub OwnLaw : Type 0
OwnLaw = (x : ExtensionTree) (sheet : Sheet) (p : ℕ) (text : List ℕ) → IsSweepText x (at_period sheet p) text → IsSweepText x sheet text

-- what is said of a behaviour is without a fault
abbrev pub FaultlessLaw : Type 0
FaultlessLaw = (x : ExtensionTree) (sheet : Sheet) (w : Which) (s : Swept) → IsValidSheet sheet → IsSwept x sheet w s → AreFaultless s

-- an extension that has a sweep is not refused
abbrev pub RefusalLaw : Type 0
RefusalLaw = (x : ExtensionTree) (sheet : Sheet) (text : List ℕ) (e : SweepErr) → e ≢ Memory → IsSweepText x sheet text → IsFirstLarge x (behaviours_of x) e → ⊥
