use Rattle.ix_cells.proofs.Forms.{if_ok}
use Rattle.ix_cells.proofs.Reckoned.{sub_kind}
use Rattle.ix_cells.proofs.arithmetic.subtracted.Goals as goal

pub returns : goal.returns
returns c = if_ok c.difference.result _ _ (λ r q. sub_kind c.args.a c.args.b c.in_ok-left.ensures q) c.difference.ensures
