use Rattle.std.proofs.Common.{◌≡◌, ◌∙◌, ◌++◌, ◌∷◌, []}
use Rattle.std.proofs.lemmas.Result.{IfOk-weaker}
use Rattle.ix_cert.specs.Layout.{report_lines}
use Rattle.ix_lines.specs.Lines.{text_of}
use Rattle.ix_cert.specs.Certificates.{IsFaultless}
use Rattle.ix_schedules.specs.ScheduleText.{no_schedule_line, alone}
use Rattle.ix_schedules.proofs.Sound.{alone_in_form, behind_faultless, behind_text}
use Rattle.ix_schedules.proofs.text.refuse_block.Goals as goal

pub print_report-requires : goal.print_report-requires
print_report-requires c = rw c.in_ok-report.ensures (alone_in_form c.args.sheet.now c.args.block c.requires.sheet c.requires.sound)

pub returns-clause-text : goal.returns-clause-text
returns-clause-text c =
    let b = c.args.block in
    let sheet = c.args.sheet.now in
    IfOk-weaker c.no_schedule.result (λ text. text ≡ (no_schedule_line c.as_str-2.result.now ++ 10 ∷ []) ++ c.as_slice.result.now) (λ text. text ≡ (no_schedule_line b.name ++ 10 ∷ []) ++ text_of (report_lines (alone sheet b)))
    (λ text e. behind_text sheet b c.as_str-2.result.now c.as_slice.result.now text c.in_ok-report.report (c.as_str-2.ensures.text ∙ c.in_ok-name.ensures ∙ c.as_str.ensures.text) (c.as_slice.ensures ∙ c.in_ok-text.ensures.lines) c.in_ok-report.ensures e)
    c.no_schedule.ensures

pub returns-clause-faultless : goal.returns-clause-faultless
returns-clause-faultless c =
    let b = c.args.block in
    let sheet = c.args.sheet.now in
    IfOk-weaker c.no_schedule.result (λ text. text ≡ (no_schedule_line c.as_str-2.result.now ++ 10 ∷ []) ++ c.as_slice.result.now) IsFaultless
    (λ text e. behind_faultless sheet b text c.requires.sheet c.requires.sound (behind_text sheet b c.as_str-2.result.now c.as_slice.result.now text c.in_ok-report.report (c.as_str-2.ensures.text ∙ c.in_ok-name.ensures ∙ c.as_str.ensures.text) (c.as_slice.ensures ∙ c.in_ok-text.ensures.lines) c.in_ok-report.ensures e))
    c.no_schedule.ensures
