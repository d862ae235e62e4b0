use Rattle.ix_words.proofs.Judging.{sheet_judged}
use Rattle.ix_words.proofs.value.judge_sheet.Goals as goal

pub returns-in-Err : goal.returns-in-Err
returns-in-Err c = sheet_judged c.args.bytes.now c.in-Err.error c.sheet_refusal.result c.in-Err.ensures.err c.sheet_refusal.ensures.memory c.sheet_refusal.ensures.line
