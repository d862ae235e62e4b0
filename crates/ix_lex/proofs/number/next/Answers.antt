use Rattle.std.proofs.Common.{sym}
use Rattle.ix_lex.proofs.Options.{none_from}
use Rattle.ix_lex.proofs.DigitRuns.{gap_here, by_digit, too_large}
use Rattle.ix_lex.proofs.number.next.Goals as goal

pub returns-in-false-clause-some : goal.returns-in-false-clause-some
returns-in-false-clause-some c = gap_here c.args.base c.args.so_far.value c.args.c c.args.so_far.gap c.in-false.is c.if-c-eq95.true

pub returns-in_err-value-clause-none : goal.returns-in_err-value-clause-none
returns-in_err-value-clause-none c =
    none_from c.from_residual-in_err-value.result
    (too_large c.args.base c.args.so_far.value c.args.c c.in_ok-digit.field-0 c.args.so_far.gap c.requires c.if-c-eq95.false (sym c.in_ok-digit.ensures.value) c.in_err-value.ensures.none)

pub returns-clause-some : goal.returns-clause-some
returns-clause-some c =
    by_digit c.args.base c.args.so_far.value c.args.c c.in_ok-digit.field-0 c.in_ok-value.value c.args.so_far.gap c.if-c-eq95.false (sym c.in_ok-digit.ensures.value) c.in_ok-value.ensures.some
