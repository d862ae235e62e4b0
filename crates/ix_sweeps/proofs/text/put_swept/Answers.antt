use Rattle.std.proofs.Common.{◌∙◌, ◌++◌, sym, ap, subst}
use Rattle.std.specs.Prelude.{All}
use Rattle.std.specs.List.{flat_map}
use Rattle.std.proofs.lemmas.Result.{on_ok_weaker}
use Rattle.ix_cert.specs.Layout.{IsInForm}
use Rattle.ix_sweeps.specs.SweepText.{head_text, report_text}
use Rattle.ix_sweeps.proofs.Printed.{schedules_in_form, last_in_form, written_some}
use Rattle.ix_sweeps.proofs.text.put_swept.Goals as goal

pub put_reports-requires : goal.put_reports-requires
put_reports-requires c = subst (λ l. All IsInForm l) (sym c.as_slice.ensures) (schedules_in_form c.args.swept.now c.requires)

pub put_report-requires : goal.put_report-requires
put_report-requires c = last_in_form c.args.swept.now c.in-Some.report c.in-Some.is c.requires

pub returns-in-Some : goal.returns-in-Some
returns-in-Some c =
    let s = c.args.swept.now in
    on_ok_weaker c.put_report.result
    (λ e. written_some s c.args.out.now.items c.put.new.out.items c.put_reports.new.out.items c.put_report.new.out.items c.as_bytes.result.now c.in-Some.report
    (c.as_bytes.ensures.value ∙ c.in_ok-line.ensures ∙ ap (λ n. head_text n s.period) c.as_str.ensures.text) c.in_ok-put.ensures
    (c.in_ok-put_reports.ensures ∙ ap (λ l. c.put.new.out.items ++ flat_map report_text l) c.as_slice.ensures) c.in-Some.is e) c.put_report.ensures
