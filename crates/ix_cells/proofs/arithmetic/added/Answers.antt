use Rattle.ix_cells.proofs.Forms.{if_ok}
use Rattle.ix_cells.proofs.Reckoned.{add_kind}
use Rattle.ix_cells.proofs.arithmetic.added.Goals as goal

pub returns : goal.returns
returns c = if_ok c.sum.result _ _ (λ r q. add_kind c.args.a c.args.b c.in_ok-left.ensures q) c.sum.ensures
