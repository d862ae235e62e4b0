use Rattle.ix_cells.proofs.Forms.{if_ok}
use Rattle.ix_cells.proofs.Shifted.{near_adds}
use Rattle.ix_cells.proofs.shifting.is_near.Goals as goal

pub returns : goal.returns
returns c = if_ok c.equal.result _ _ (λ r q. near_adds _ c.in_ok-high.ensures c.in_ok-none.ensures q) c.equal.ensures
