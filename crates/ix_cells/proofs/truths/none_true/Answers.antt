use Rattle.ix_cells.proofs.Forms.{if_ok}
use Rattle.ix_cells.proofs.Tests.{lnot_kind}
use Rattle.ix_cells.proofs.truths.none_true.Goals as goal

pub returns : goal.returns
returns c = if_ok c.is_zero.result _ _ (λ r q. lnot_kind c.args.a c.args.ty c.requires q) c.is_zero.ensures
