use Rattle.std.proofs.Common.{◌∙◌, ◌++◌, ap}
use Rattle.ix_sweeps.specs.SweepText.{report_text}
use Rattle.ix_sweeps.proofs.Printed.{piece_more}
use Rattle.ix_sweeps.proofs.text.put_reports.Goals as goal

pub loop-report-preserved : goal.loop-report-preserved
loop-report-preserved c =
    piece_more report_text c.args.out.now.items c.loop-report.out.items c.put_report.new.out.items c.args.reports.now c.loop-report.report-index c.report-item.result c.loop-report-test.true c.loop-report.invariant
    (c.in_ok-put_report.ensures ∙ ap (λ r. c.loop-report.out.items ++ report_text r) c.report-item.is)
