use Rattle.ix_neteval.proofs.Masks.{joined}
use Rattle.ix_neteval.proofs.arithmetic.join.Goals as goal

pub returns : goal.returns
returns c = joined c.args.high c.args.low c.args.width c.requires.fits c.requires.low_fits
