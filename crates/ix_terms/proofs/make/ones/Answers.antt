use Rattle.ix_bits.proofs.Results.{ones_of}
use Rattle.ix_terms.proofs.make.ones.Goals as goal

pub returns : goal.returns
returns c = ones_of c.args.width c.requires.most
