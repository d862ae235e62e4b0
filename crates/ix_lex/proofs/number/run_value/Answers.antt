use Rattle.std.proofs.Common.{arith}
use Rattle.ix_lex.proofs.DigitRuns.{reached_none, reached_end, reached_gap}
use Rattle.ix_lex.proofs.number.run_value.Goals as goal

pub loop-c-init : goal.loop-c-init
loop-c-init c = reached_none c.args.base c.args.first c.args.text.now

pub returns-then-so_far-clause-none : goal.returns-then-so_far-clause-none
returns-then-so_far-clause-none c =
    reached_gap c.args.base c.args.first c.args.text.now c.loop-c.so_far.value c.loop-c.so_far.gap c.loop-c.c-index c.if-so_far.true (omega arith) c.loop-c.invariant

pub returns-else-so_far-clause-some : goal.returns-else-so_far-clause-some
returns-else-so_far-clause-some c =
    reached_end c.args.base c.args.first c.args.text.now c.loop-c.so_far.value c.loop-c.so_far.gap c.loop-c.c-index c.if-so_far.false (omega arith) c.loop-c.invariant
