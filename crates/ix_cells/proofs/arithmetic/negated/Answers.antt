use Rattle.ix_cells.proofs.Forms.{if_ok}
use Rattle.ix_cells.proofs.Reckoned.{neg_kind}
use Rattle.ix_cells.proofs.arithmetic.negated.Goals as goal

pub returns : goal.returns
returns c = if_ok c.difference.result _ _ (λ r q. neg_kind c.args.a c.args.ty c.in_ok-none.ensures c.in_ok-number.ensures q) c.difference.ensures
