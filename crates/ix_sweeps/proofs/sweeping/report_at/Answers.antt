use Rattle.std.proofs.Common.{◌≡◌, sym, subst}
use Rattle.std.proofs.lemmas.Result.{IfOk-weaker}
use Rattle.ix_sheet.specs.declared.sheet.Sheet.{Sheet}
use Rattle.ix_modes.specs.Modes.{IsScheduled}
use Rattle.ix_reports.specs.Blocks.{SaysSchedule}
use Rattle.ix_schedules.specs.ScheduleText.{alone}
use Rattle.ix_sweeps.specs.Sweeping.{IsReportAt}
use Rattle.ix_sweeps.proofs.Reports.{report_made}
use Rattle.ix_sweeps.proofs.sweeping.report_at.Goals as goal

pub scheduled_block-requires-clause-scheduled : goal.scheduled_block-requires-clause-scheduled
scheduled_block-requires-clause-scheduled c =
    subst (λ (s : Sheet). IsScheduled c.args.graph.now s c.args.block c.args.entry.scheduled) (sym c.at_period-sheet.ensures.is) c.requires.entry.scheduled

pub returns : goal.returns
returns c =
    IfOk-weaker c.report_alone.result (λ r. r ≡ alone c.at_period-sheet.result c.in_ok-said.said) (IsReportAt c.args.name.now c.args.graph.now c.args.sheet.now c.args.block c.args.entry.period)
    (λ r e. report_made c.args.name.now c.args.graph.now c.args.sheet.now c.args.block c.args.entry c.at_period-sheet.result c.in_ok-said.said r c.at_period-sheet.ensures.is c.requires.entry
    (subst (λ n. SaysSchedule n c.args.graph.now c.args.entry.scheduled c.in_ok-said.said) c.in_ok-name.ensures c.in_ok-said.ensures.says) c.in_ok-said.ensures.sound e) c.report_alone.ensures
