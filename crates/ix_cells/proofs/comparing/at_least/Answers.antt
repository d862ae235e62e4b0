use Rattle.ix_cells.proofs.Forms.{if_ok}
use Rattle.ix_cells.proofs.Comparisons.{ge_kind}
use Rattle.ix_cells.proofs.comparing.at_least.Goals as goal

pub returns : goal.returns
returns c = if_ok c.turned.result _ _ (λ r q. ge_kind c.args.a c.args.b c.in_ok-test.ensures q) c.turned.ensures
