use Rattle.ix_cells.proofs.Forms.{if_ok}
use Rattle.ix_cells.proofs.Shifted.{down_adds}
use Rattle.ix_cells.proofs.shifting.moved_down.Goals as goal

pub returns : goal.returns
returns c = if_ok c.extended.result _ _ (λ r q. down_adds c.args.signed c.args.by c.requires.below c.in_ok-high.ensures q) c.extended.ensures
