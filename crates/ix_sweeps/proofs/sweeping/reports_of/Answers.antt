use Rattle.ix_sweeps.proofs.Reports.{reports_more}
use Rattle.ix_sweeps.proofs.sweeping.reports_of.Goals as goal

pub loop-entry-preserved : goal.loop-entry-preserved
loop-entry-preserved c =
    reports_more c.args.name.now c.args.graph.now c.args.sheet.now c.args.block c.loop-entry.yielded c.in-Some.entry c.loop-entry.reports c.push.new.self c.in_ok-report.report c.in_ok-push.ensures.ok c.loop-entry.invariant
    c.in_ok-report.ensures
