-- The law of printing and reading (this project's choice of the form).
use Rattle.std.specs.Prelude.{◌≡◌}
use Rattle.ix_cert.specs.declared.report.Report.{Report}
use Rattle.ix_cert.specs.Layout.{IsInForm, IsReportText, report_lines}
use Rattle.ix_lines.specs.Lines.{text_of}

-- what is printed of a report in the range of the form is the text of that report
abbrev pub PrintedIsText : Type 0
PrintedIsText = (r : Report) → IsInForm r → IsReportText (text_of (report_lines r)) r

-- and of no other report
abbrev pub PrintedIsOne : Type 0
PrintedIsOne = (r s : Report) → IsInForm r → IsReportText (text_of (report_lines r)) s → s ≡ r
