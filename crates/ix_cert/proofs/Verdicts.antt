-- A text is not both without a fault and refused; one without a fault is certified; and the text of a report is that of no other.
use Rattle.std.proofs.Common.{◌≡◌, ℕ, ◌<◌, ◌^◌, List, length, Ok, refl, sym, subst, inl, inr}
use Rattle.ix_cert.specs.declared.report.CertErr.{CertErr}
use Rattle.ix_cert.specs.declared.report.Report.{Report}
use Rattle.ix_cert.specs.Layout.{lines_of, first_line, behind_refusal, IsReportText, IsInForm, report_lines}
use Rattle.ix_lines.specs.Lines.{text_of}
use Rattle.ix_cert.specs.Faults.{IsFirstFault, steps_of}
use Rattle.ix_cert.specs.Certificates.{IsCertifiedText, IsFaultless, IsRefused}
use Rattle.ix_cert.proofs.OneFault.{no_fault}
use Rattle.ix_cert.proofs.Outcomes.{same_report, not_both, printed}
use Rattle.ix_cert.proofs.Answering.{certified}

-- a text has one report
pub one_text : (bytes : List ℕ) (a b : Report) → IsReportText bytes a → IsReportText bytes b → a ≡ b
one_text bytes a b s t = same_report bytes (behind_refusal (lines_of bytes)) a b refl s.in_form (sym s.lines) t

pub faultless_not_refused : (bytes : List ℕ) (e : CertErr) → IsFaultless bytes → IsRefused bytes e → ⊥
faultless_not_refused bytes e f (inl bad) = not_both bytes f.report bad.0 f.text bad.2
faultless_not_refused bytes e f (inr g) =
    no_fault (steps_of f.report (first_line (lines_of bytes))) e f.faultless
    (subst (λ r. IsFirstFault (steps_of r (first_line (lines_of bytes))) e) (one_text bytes g.report f.report g.text f.text) g.fault)

pub faultless_certified : (bytes : List ℕ) → length bytes < 2 ^ 32 → IsFaultless bytes → IsCertifiedText bytes
faultless_certified bytes small f = certified bytes f.report (first_line (lines_of bytes)) f.text refl small (Ok tt) f.faultless

-- what is printed of a report is the text of that report alone
pub print_back : (r s : Report) → IsInForm r → IsReportText (text_of (report_lines r)) s → s ≡ r
print_back r s f t = one_text (text_of (report_lines r)) s r t (printed (text_of (report_lines r)) r f refl)
