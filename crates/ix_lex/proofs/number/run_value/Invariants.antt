use Rattle.std.proofs.Common.{drop}
use Rattle.ix_lex.proofs.DigitRuns.{Reached}
use Rattle.ix_lex.proofs.number.run_value.Given as goal

abbrev pub invariant-loop-c : goal.invariant-loop-c
invariant-loop-c l = Reached l.base l.first l.text l.so_far.gap l.so_far.value (drop l.c-index l.text)
