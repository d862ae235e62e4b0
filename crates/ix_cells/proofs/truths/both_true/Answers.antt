use Rattle.ix_cells.proofs.Forms.{if_ok}
use Rattle.ix_cells.proofs.Tests.{land_kind}
use Rattle.ix_cells.proofs.truths.both_true.Goals as goal

pub returns : goal.returns
returns c = if_ok c.common.result _ _ (λ r q. land_kind c.args.a c.args.b c.in_ok-left.ensures c.in_ok-right.ensures q) c.common.ensures
