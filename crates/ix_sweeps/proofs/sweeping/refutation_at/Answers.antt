use Rattle.std.proofs.Common.{◌≡◌, sym, subst}
use Rattle.std.proofs.lemmas.Result.{IfOk-weaker}
use Rattle.ix_sheet.specs.declared.sheet.Sheet.{Sheet}
use Rattle.ix_modes.specs.Modes.{IsUnschedulable}
use Rattle.ix_reports.specs.Blocks.{SaysNone}
use Rattle.ix_schedules.specs.ScheduleText.{alone}
use Rattle.ix_sweeps.specs.Sweeping.{IsRefutationAt}
use Rattle.ix_sweeps.proofs.Reports.{refutation_made}
use Rattle.ix_sweeps.proofs.sweeping.refutation_at.Goals as goal

pub unscheduled_block-requires-clause-unschedulable : goal.unscheduled_block-requires-clause-unschedulable
unscheduled_block-requires-clause-unschedulable c =
    subst (λ (s : Sheet). IsUnschedulable c.args.graph.now s c.args.block c.args.below.0 c.args.below.1) (sym c.at_period-sheet.ensures.is) c.requires.none

pub returns : goal.returns
returns c =
    IfOk-weaker c.report_alone.result (λ r. r ≡ alone c.at_period-sheet.result c.in_ok-said.said) (IsRefutationAt c.args.name.now c.args.graph.now c.args.sheet.now c.args.block c.args.period)
    (λ r e. refutation_made c.args.name.now c.args.graph.now c.args.sheet.now c.args.block c.args.period c.args.below.0 c.args.below.1 c.at_period-sheet.result c.in_ok-said.said r c.at_period-sheet.ensures.is c.requires.none
    (subst (λ n. SaysNone n c.args.graph.now c.args.below.0 c.args.below.1 c.in_ok-said.said) c.in_ok-name.ensures c.in_ok-said.ensures.says) c.in_ok-said.ensures.sound e) c.report_alone.ensures
