-- The text of the report of an extension, and the texts of its refusals (this project's choice).
use Rattle.std.specs.Prelude.{◌≡◌, ℕ, List, [], ◌∷◌, ◌++◌, codes}
use Rattle.ix_extension.specs.Extensions.{ExtensionTree}
use Rattle.ix_behaviour.specs.declared.which.Which.{Which}
use Rattle.ix_sheet.specs.declared.sheet.Sheet.{Sheet}
use Rattle.ix_cert.specs.declared.report.Report.{Report}
use Rattle.ix_cert.specs.declared.report.ReportBlock.{ReportBlock}
use Rattle.ix_cert.specs.Layout.{report_lines}
use Rattle.ix_lines.specs.Lines.{text_of}
use Rattle.ix_cert.specs.Certificates.{IsFaultless}
use Rattle.ix_reports.specs.Blocks.{version_by}
use Rattle.ix_schedules.specs.Scheduling.{behaviours_of, name_at, IsReport, IsTooLarge, IsSchedulable, IsWithout, AtFirst}
use Rattle.ix_schedules.specs.declared.text.TextErr.{TextErr}
use Rattle.ix_schedules.specs.declared.text.TextErr.TheVariants.{TooManyOps, NoSchedule, Memory}

-- the text is that of the extension's report, in which the check of a report finds no fault
pub record IsScheduleText (x : ExtensionTree) (sheet : Sheet) (text : List ℕ) : Type 0 where
  pub report : Report
  pub reports : IsReport x sheet report
  pub printed : text ≡ text_of (report_lines report)
  pub faultless : IsFaultless text

-- the lines that name a behaviour
unfoldable pub too_many_line : List ℕ → List ℕ
too_many_line name = codes "refused Extension TooManyOps " ++ name

unfoldable pub no_schedule_line : List ℕ → List ℕ
no_schedule_line name = codes "refused NoSchedule " ++ name

-- the behaviour has more than 256 operations, and the text is the line that says so
pub record IsTooManyText (x : ExtensionTree) (text : List ℕ) (w : Which) : Type 0 where
  pub large : IsTooLarge x w
  pub printed : text ≡ too_many_line (name_at x w) ++ 10 ∷ []

abbrev pub alone : Sheet → ReportBlock → Report
alone sheet b = record { version = version_by sheet.weighted; period = sheet.period; blocks = b ∷ [] }

-- the behaviour has no legal schedule in its widest windows; the text is the line that names it, and the report of it alone, in whose
-- cycle the check of a report finds no fault
pub record IsNoScheduleText (x : ExtensionTree) (sheet : Sheet) (text : List ℕ) (w : Which) : Type 0 where
  pub block : ReportBlock
  pub without : IsWithout x sheet w block
  pub printed : text ≡ text_of (no_schedule_line (name_at x w) ∷ report_lines (alone sheet block))
  pub faultless : IsFaultless text

-- of all behaviours the first that is not scheduled, and its text
abbrev pub IsRefusedText : ExtensionTree → Sheet → TextErr → Type 0
IsRefusedText x sheet (TooManyOps text) = AtFirst (IsSchedulable x sheet) (IsTooManyText x text) (behaviours_of x)
IsRefusedText x sheet (NoSchedule text) = AtFirst (IsSchedulable x sheet) (IsNoScheduleText x sheet text) (behaviours_of x)
IsRefusedText x sheet Memory = Unit {0}
