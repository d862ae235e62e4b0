use Rattle.std.proofs.Common.{arith}
use Rattle.ix_lex.proofs.Literals.{no_width_range}
use Rattle.ix_lex.proofs.number.width.Goals as goal
use Rattle.ix_lex.proofs.number.width.Goals.{then-width-eq0-via-then-width-eq0, then-width-eq0-via-else-width-eq0+then-width-gt128}

pub returns-then-width-eq0-clause-none : goal.returns-then-width-eq0-clause-none
returns-then-width-eq0-clause-none c =
    no_width_range c.args.text.now c.in_ok-width.width c.in_ok-width.ensures.some
    (λ a b. elim c.then-width-eq0.branch [ then-width-eq0-via-then-width-eq0 w ↦ omega arith | then-width-eq0-via-else-width-eq0+then-width-gt128 w ↦ omega arith ])
