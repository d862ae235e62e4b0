use Rattle.ix_cells.proofs.Forms.{if_ok}
use Rattle.ix_cells.proofs.Shifted.{shl_kind}
use Rattle.ix_cells.proofs.shifting.shifted_up.Goals as goal

pub returns : goal.returns
returns c = if_ok c.shifted.result _ _ (λ r q. shl_kind c.args.a c.args.b c.requires q) c.shifted.ensures
