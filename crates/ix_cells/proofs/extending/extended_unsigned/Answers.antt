use Rattle.ix_cells.proofs.Forms.{if_ok}
use Rattle.ix_cells.proofs.Extensions.{unsigned_adds}
use Rattle.ix_cells.proofs.extending.extended_unsigned.Goals as goal

pub returns : goal.returns
returns c = if_ok c.joined.result _ _ (λ r p. unsigned_adds c.args.width c.requires.wider c.in_ok-above.ensures p) c.joined.ensures
