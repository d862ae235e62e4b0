-- Laws of the schedules of extensions.
use Rattle.std.specs.Prelude.{◌≢◌, ℕ, List}
use Rattle.ix_extension.specs.Extensions.{ExtensionTree}
use Rattle.ix_elab.specs.Elaborating.{Elaborates}
use Rattle.ix_sheet.specs.declared.sheet.Sheet.{Sheet}
use Rattle.ix_schedules.specs.declared.text.TextErr.{TextErr}
use Rattle.ix_schedules.specs.declared.text.TextErr.TheVariants.{TooManyOps, NoSchedule, Memory}
use Rattle.ix_schedules.specs.Scheduling.{AreNamed}
use Rattle.ix_schedules.specs.ScheduleText.{IsScheduleText, IsRefusedText}

-- the behaviours of the extension of a text have names of the language
abbrev pub NameLaw : Type 0
NameLaw = (bytes : List ℕ) (x : ExtensionTree) → Elaborates bytes x → AreNamed x

-- an extension that has a report is not refused
abbrev pub ReportLaw : Type 0
ReportLaw = (x : ExtensionTree) (sheet : Sheet) (text : List ℕ) (e : TextErr) → e ≢ Memory → IsScheduleText x sheet text → IsRefusedText x sheet e → ⊥

-- and it is refused for one cause
abbrev pub RefusalLaw : Type 0
RefusalLaw = (x : ExtensionTree) (sheet : Sheet) (a b : List ℕ) → IsRefusedText x sheet (TooManyOps a) → IsRefusedText x sheet (NoSchedule b) → ⊥
