-- A text that is that of a lawful run by one design is by another that is alike, and is not refused there.
use Rattle.std.proofs.Common.{◌≡◌, ◌∙◌, ap, subst, List, ◌++◌, reverse, ℕ}
use Rattle.ix_extension.specs.Extensions.{view_extension}
use Rattle.ix_sheet.specs.declared.sheet.Sheet.{Sheet}
use Rattle.ix_sheet.specs.Laws.{OneLaw}
use Rattle.ix_plan.specs.declared.design.Design.{Design}
use Rattle.rv_trace.specs.declared.row.Row.{Row}
use Rattle.rv_trace.specs.TraceText.{trace_text}
use Rattle.rv_text.specs.RunText.{state_text}
use Rattle.rv_lawful.specs.Outstanding.{architecture, outstanding_targets}
use Rattle.rv_lawful.specs.LawfulTrace.{Lawful}
use Rattle.rv_rows.specs.Recorded.{AreRecorded}
use Rattle.rv_watch.specs.Fit.{plain_setting}
use Rattle.rv_watch.specs.Printed.{state_behind}
use Rattle.rv_watch.specs.Audited.{IsAudited}
use Rattle.rv_watch.specs.AuditLaws.{AuditLaw}
use Rattle.rv_audit.proofs.Causes.{not_refused}
use Rattle.rv_audit.specs.Alike.{AreAlike, OneAnswerLaw}
use Rattle.rv_audit.proofs.OneSetting.{one_setting}

module _ (d e : Design) (image waits : List ℕ) (alike : AreAlike d e) (same : plain_setting d image waits ≡ plain_setting e image waits) where
  same_state : (rows : List Row) → state_behind d image waits rows ≡ state_behind e image waits rows
  same_state rows =
      let k = plain_setting d image waits in
      ap (λ x. state_text x (outstanding_targets k rows) (architecture x k rows)) alike.extension
      ∙ ap (λ j. state_text (view_extension e.extension) (outstanding_targets j rows) (architecture (view_extension e.extension) j rows)) same

  audited_alike : (text : List ℕ) → IsAudited d image waits text → IsAudited e image waits text
  audited_alike text is = record {
    rows = is.rows;
    lawful = subst (λ k. Lawful (λ places. k) is.rows) same is.lawful;
    recorded = subst (λ k. AreRecorded k is.rows) same is.recorded;
    text_is =
        is.text_is
        ∙ ap (λ (s : Sheet). trace_text s.shape.stages 0 (reverse is.rows) ++ state_behind d image waits is.rows) alike.sheet
        ∙ ap (λ t. trace_text e.sheet.shape.stages 0 (reverse is.rows) ++ t) (same_state is.rows);
  }

pub one_answer : OneLaw → AuditLaw → OneAnswerLaw
one_answer one law d e image waits text error stands other alike given short audited fault =
    let same = one_setting image waits one d e stands other alike in
    not_refused e image waits text short error fault (law.complete e image waits text other given short (audited_alike d e image waits alike same text audited))
