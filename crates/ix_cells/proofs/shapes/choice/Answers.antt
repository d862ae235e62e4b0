use Rattle.ix_cells.proofs.Forms.{if_ok}
use Rattle.ix_cells.proofs.Shaping.{choice_kind}
use Rattle.ix_cells.proofs.shapes.choice.Goals as goal

pub returns : goal.returns
returns c = if_ok c.chosen.result _ _ (λ r q. choice_kind c.args.condition c.args.a c.args.b c.in_ok-left.ensures q) c.chosen.ensures
