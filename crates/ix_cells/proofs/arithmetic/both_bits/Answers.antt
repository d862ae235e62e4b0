use Rattle.ix_cells.proofs.Forms.{if_ok}
use Rattle.ix_cells.proofs.Reckoned.{and_kind}
use Rattle.ix_cells.proofs.arithmetic.both_bits.Goals as goal

pub returns : goal.returns
returns c = if_ok c.common.result _ _ (λ r q. and_kind c.args.a c.args.b c.in_ok-left.ensures c.requires.exact q) c.common.ensures
