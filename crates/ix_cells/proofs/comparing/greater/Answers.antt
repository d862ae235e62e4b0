use Rattle.ix_cells.proofs.Forms.{if_ok}
use Rattle.ix_cells.proofs.Comparisons.{gt_kind}
use Rattle.ix_cells.proofs.comparing.greater.Goals as goal

pub returns : goal.returns
returns c = if_ok c.less.result _ _ (λ r q. gt_kind c.args.a c.args.b q) c.less.ensures
