use Rattle.ix_cells.proofs.Forms.{if_ok}
use Rattle.ix_cells.proofs.Shifted.{up_adds}
use Rattle.ix_cells.proofs.shifting.moved_up.Goals as goal

pub returns : goal.returns
returns c = if_ok c.joined.result _ _ (λ r q. up_adds c.args.by c.requires.some c.requires.below c.in_ok-low.ensures c.in_ok-none.ensures q) c.joined.ensures
