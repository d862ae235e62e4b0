use Rattle.ix_bits.proofs.Results.{ones_of}
use Rattle.ix_vnets.proofs.number.greatest.Goals as goal

pub returns : goal.returns
returns c = ones_of c.args.width c.requires.most
