use Rattle.ix_cells.proofs.Forms.{if_ok}
use Rattle.ix_cells.proofs.Reckoned.{mul_kind}
use Rattle.ix_cells.proofs.arithmetic.multiplied.Goals as goal

pub returns : goal.returns
returns c = if_ok c.product.result _ _ (λ r q. mul_kind c.args.a c.args.b c.in_ok-left.ensures q) c.product.ensures
