use Rattle.ix_vread.proofs.Denoted.{denoted_read}
use Rattle.ix_vread.proofs.laws.read_laws.Goals as goal

pub returns : goal.returns
returns c = denoted_read (record { finished = c.nets_laws.ensures.finished; made = c.nets_laws.ensures.made; once = c.nets_laws.ensures.once; fits = c.nets_laws.ensures.fits })
