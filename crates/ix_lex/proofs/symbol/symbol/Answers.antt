use Rattle.std.proofs.Common.{arith}
use Rattle.ix_lex.proofs.Parts.{longest_none_at}
use Rattle.ix_lex.proofs.symbol.symbol.Goals as goal

pub returns-then-best-eq0-clause-none : goal.returns-then-best-eq0-clause-none
returns-then-best-eq0-clause-none c = longest_none_at c.args.bytes.now c.loop-n.n c.loop-n.best.number c.loop-n.best.length (omega arith) c.if-best-eq0.true c.loop-n.invariant
