use Rattle.ix_cells.proofs.Forms.{if_ok}
use Rattle.ix_cells.proofs.Tests.{zero_bit, zero_bits}
use Rattle.ix_cells.proofs.truths.is_zero.Goals as goal

pub returns-then-wire-eq1 : goal.returns-then-wire-eq1
returns-then-wire-eq1 c = if_ok c.turned.result _ _ (λ r q. zero_bit c.args.a c.if-wire-eq1.true q) c.turned.ensures

pub returns : goal.returns
returns c = if_ok c.equal.result _ _ (λ r q. zero_bits c.args.a c.in_ok-none.ensures q) c.equal.ensures
