-- The text of a sweep (this project's choice).
use Rattle.std.specs.Prelude.{◌≡◌, ℕ, List, [], ◌∷◌, ◌++◌, All, Option, Some, None, codes, decimal}
use Rattle.std.specs.List.{flat_map}
use Rattle.ix_extension.specs.Extensions.{ExtensionTree}
use Rattle.ix_sheet.specs.declared.sheet.Sheet.{Sheet}
use Rattle.ix_cert.specs.declared.report.Report.{Report}
use Rattle.ix_cert.specs.Layout.{report_lines, IsInForm}
use Rattle.ix_lines.specs.Lines.{text_of}
use Rattle.ix_cert.specs.Certificates.{IsFaultless}
use Rattle.ix_schedules.specs.Scheduling.{behaviours_of}
use Rattle.ix_sweeps.specs.declared.sweeping.Swept.{Swept}
use Rattle.ix_sweeps.specs.Sweeping.{AreSwept}

-- the line with a behaviour's least period, or that it has none
abbrev pub head_text : List ℕ → Option ℕ → List ℕ
head_text name (Some p) = codes "sweep " ++ name ++ codes " least " ++ decimal p ++ codes "\n"
head_text name None = codes "sweep " ++ name ++ codes " none\n"

abbrev pub report_text : Report → List ℕ
report_text r = text_of (report_lines r)

-- the reports of a behaviour, in order
abbrev pub below_in : Option Report → List Report
below_in None = []
below_in (Some r) = r ∷ []

abbrev pub reports_in : Swept → List Report
reports_in s = s.reports ++ below_in s.below

-- what is written of a behaviour: its line, and then its reports
abbrev pub swept_text : Swept → List ℕ
swept_text s = head_text s.name s.period ++ flat_map report_text (reports_in s)

abbrev pub AreInForm : List Swept → Type 0
AreInForm sweeps = All (λ s. All IsInForm (reports_in s)) sweeps

-- the check of a report finds no fault in any of its reports
abbrev pub AreFaultless : Swept → Type 0
AreFaultless s = All (λ r. IsFaultless (report_text r)) (reports_in s)

-- the text is that of the sweeps of the extension's behaviours
pub record IsSweepText (x : ExtensionTree) (sheet : Sheet) (text : List ℕ) : Type 0 where
  pub sweeps : List Swept
  pub swept : AreSwept x sheet (behaviours_of x) sweeps
  pub printed : text ≡ flat_map swept_text sweeps
  pub faultless : All AreFaultless sweeps
