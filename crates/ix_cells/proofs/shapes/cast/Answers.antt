use Rattle.std.proofs.Common.{arith}
use Rattle.ix_cells.proofs.Forms.{if_ok}
use Rattle.ix_cells.proofs.Shaping.{narrow_kind, wide_kind}
use Rattle.ix_cells.proofs.shapes.cast.Goals as goal

pub returns-then-ty-a : goal.returns-then-ty-a
returns-then-ty-a c = if_ok c.extended.result _ _ (λ r q. wide_kind c.args.a c.args.ty q) c.extended.ensures

pub returns : goal.returns
returns c = if_ok c.bits.result _ _ (λ r q. narrow_kind c.args.a c.args.ty (omega arith) q) c.bits.ensures
