use Rattle.ix_cells.proofs.Forms.{if_ok}
use Rattle.ix_cells.proofs.Reckoned.{not_kind}
use Rattle.ix_cells.proofs.arithmetic.inverted.Goals as goal

pub returns : goal.returns
returns c = if_ok c.turned.result _ _ (λ r q. not_kind c.args.a c.args.ty c.requires q) c.turned.ensures
