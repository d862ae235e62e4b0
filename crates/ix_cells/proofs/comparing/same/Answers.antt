use Rattle.ix_cells.proofs.Forms.{if_ok}
use Rattle.ix_cells.proofs.Comparisons.{eq_kind}
use Rattle.ix_cells.proofs.comparing.same.Goals as goal

pub returns : goal.returns
returns c = if_ok c.equal.result _ _ (λ r q. eq_kind c.args.a c.args.b c.in_ok-left.ensures c.width_of_both-width.ensures q) c.equal.ensures
