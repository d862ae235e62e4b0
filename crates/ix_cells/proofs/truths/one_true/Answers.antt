use Rattle.ix_cells.proofs.Forms.{if_ok}
use Rattle.ix_cells.proofs.Tests.{lor_kind}
use Rattle.ix_cells.proofs.truths.one_true.Goals as goal

pub returns : goal.returns
returns c = if_ok c.either.result _ _ (λ r q. lor_kind c.args.a c.args.b c.in_ok-left.ensures c.in_ok-right.ensures q) c.either.ensures
