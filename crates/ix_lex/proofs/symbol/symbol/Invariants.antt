use Rattle.ix_lex.specs.Symbols.{IsLongest}
use Rattle.ix_lex.proofs.symbol.symbol.Given as goal

abbrev pub invariant-loop-n : goal.invariant-loop-n
invariant-loop-n l = IsLongest l.bytes l.n l.best.number l.best.length
