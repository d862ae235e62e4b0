use Rattle.ix_cells.proofs.Forms.{if_ok}
use Rattle.ix_cells.proofs.Reckoned.{or_kind}
use Rattle.ix_cells.proofs.arithmetic.either_bits.Goals as goal

pub returns : goal.returns
returns c = if_ok c.either.result _ _ (λ r q. or_kind c.args.a c.args.b c.in_ok-left.ensures c.requires.exact q) c.either.ensures
