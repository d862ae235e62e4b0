use Rattle.ix_bits.proofs.Results.{sign_bit}
use Rattle.ix_bits.proofs.arithmetic.is_negative.Goals as goal

pub returns-then-ty : goal.returns-then-ty
returns-then-ty c = rw (c.if-ty.true, ← c.requires) (sign_bit c.args.a.width c.args.a.raw c.args.a.some_width c.args.a.in_width)
