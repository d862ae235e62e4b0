-- What the check of a report's text answers (this project's choice of what is told; what a yes says is linear programming's duality).
use Rattle.std.specs.Prelude.{◌≡◌, ℕ, List, All, Result, Ok, Err, ◌⊎◌}
use Rattle.ix_cert.specs.declared.report.CertErr.{CertErr}
use Rattle.ix_cert.specs.declared.report.CertErr.TheVariants.{Line, Memory}
use Rattle.ix_cert.specs.declared.report.Report.{Report}
use Rattle.ix_cert.specs.Layout.{lines_of, first_line, IsReportText, IsBadLine}
use Rattle.ix_cert.specs.Faults.{IsFirstFault, HasNoFault, steps_of, IsCertified}

-- the text is a report, and each behaviour's times are legal and cheapest, or it has no legal schedule
pub record IsCertifiedText (bytes : List ℕ) : Type 0 where
  pub report : Report
  pub text : IsReportText bytes report
  pub certified : All IsCertified report.blocks

-- the text is a report, and no step finds a fault
pub record IsFaultless (bytes : List ℕ) : Type 0 where
  pub report : Report
  pub text : IsReportText bytes report
  pub faultless : HasNoFault (steps_of report (first_line (lines_of bytes)))

-- the text is a report, and the first step that finds a fault tells this
pub record IsFaulty (bytes : List ℕ) (e : CertErr) : Type 0 where
  pub report : Report
  pub text : IsReportText bytes report
  pub fault : IsFirstFault (steps_of report (first_line (lines_of bytes))) e

-- the first bad line of a text that is no report, or the first fault of one
abbrev pub IsRefused : List ℕ → CertErr → Type 0
IsRefused bytes e = ((n : ℕ) × (e ≡ Line n) × IsBadLine bytes n) ⊎ IsFaulty bytes e

-- the answer is yes, if memory is found
abbrev pub Accepts : Result (Unit {0}) CertErr → Type 0
Accepts (Ok done) = Unit {0}
Accepts (Err e) = e ≡ Memory

-- the answer is this error, if memory is found
abbrev pub Refuses : CertErr → Result (Unit {0}) CertErr → Type 0
Refuses e (Ok done) = ⊥
Refuses e (Err f) = (f ≡ e) ⊎ (f ≡ Memory)
