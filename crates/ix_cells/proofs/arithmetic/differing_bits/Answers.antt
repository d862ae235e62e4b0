use Rattle.ix_cells.proofs.Forms.{if_ok}
use Rattle.ix_cells.proofs.Reckoned.{xor_kind}
use Rattle.ix_cells.proofs.arithmetic.differing_bits.Goals as goal

pub returns : goal.returns
returns c = if_ok c.differing.result _ _ (λ r q. xor_kind c.args.a c.args.b c.in_ok-left.ensures c.requires.exact q) c.differing.ensures
