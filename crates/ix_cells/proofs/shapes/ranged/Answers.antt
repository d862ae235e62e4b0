use Rattle.ix_cells.proofs.Forms.{if_ok}
use Rattle.ix_cells.proofs.Shaping.{range_kind}
use Rattle.ix_cells.proofs.shapes.ranged.Goals as goal

pub returns : goal.returns
returns c = if_ok c.bits.result _ _ (λ r q. range_kind c.args.a c.args.hi c.args.lo c.args.ty c.requires q) c.bits.ensures
