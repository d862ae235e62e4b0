use Rattle.std.proofs.Common.{refl}
use Rattle.ix_words.specs.declared.command.FileKind.TheVariants.{Lines}
use Rattle.ix_words.specs.WordsRead.{lines_line}
use Rattle.ix_words.proofs.Judging.{judged_err}
use Rattle.ix_words.proofs.value.judge_lines.Goals as goal

pub returns-in-Err-At : goal.returns-in-Err-At
returns-in-Err-At c =
    judged_err Lines c.args.bytes.now (lines_line c.in-Err-At.number) c.numbered_refusal.result
    (c.in-Err-At.number, rw c.in-Err-At.field-0-is at c.in-Err-At.ensures.refused, refl) c.numbered_refusal.ensures
