use Rattle.std.proofs.Common.{arith}
use Rattle.ix_dump.proofs.Lists.{shown_first, shown_other, hidden_other}
use Rattle.ix_dump.proofs.row.is_shown.Goals as goal

pub returns-then-number-eq0-clause-shown : goal.returns-then-number-eq0-clause-shown
returns-then-number-eq0-clause-shown c = λ _. shown_first c.args.number c.args.before c.args.now (omega (arith, c.if-number-eq0.true))

pub returns-else-number-eq0-clause-shown : goal.returns-else-number-eq0-clause-shown
returns-else-number-eq0-clause-shown c = shown_other c.args.number c.args.before c.args.now (omega (arith, c.if-number-eq0.false))

pub returns-else-number-eq0-clause-hidden : goal.returns-else-number-eq0-clause-hidden
returns-else-number-eq0-clause-hidden c = hidden_other c.args.number c.args.before c.args.now (omega (arith, c.if-number-eq0.false))
