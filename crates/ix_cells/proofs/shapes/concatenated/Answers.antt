use Rattle.ix_cells.proofs.Forms.{if_ok}
use Rattle.ix_cells.proofs.Shaping.{concat_kind}
use Rattle.ix_cells.proofs.shapes.concatenated.Goals as goal

pub returns : goal.returns
returns c = if_ok c.joined.result _ _ (λ r q. concat_kind c.args.a c.args.b q) c.joined.ensures
