use Rattle.ix_words.proofs.Judging.{report_judged}
use Rattle.ix_words.proofs.value.judge_report.Goals as goal

pub returns-in-Err : goal.returns-in-Err
returns-in-Err c = report_judged c.args.bytes.now c.in-Err.error c.report_refusal.result c.in-Err.ensures.no c.report_refusal.ensures.memory c.report_refusal.ensures.line
