use Rattle.ix_words.proofs.Judging.{extension_judged}
use Rattle.ix_words.proofs.value.judge_extension.Goals as goal

pub returns-in-Err : goal.returns-in-Err
returns-in-Err c = extension_judged c.args.bytes.now c.in-Err.error c.extension_refusal.result c.in-Err.ensures.cause c.extension_refusal.ensures.memory c.extension_refusal.ensures.line
