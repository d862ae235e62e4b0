use Rattle.ix_vread.proofs.Denoted.{read_exactly}
use Rattle.ix_vread.proofs.reading.read.Goals as goal

pub returns-in-Ok-clause-exactly : goal.returns-in-Ok-clause-exactly
returns-in-Ok-clause-exactly c = read_exactly c.subset_laws.ensures.denotation c.read_laws.ensures c.args.bytes.now c.nets_in_words.result c.nets_in_words.ensures.denotes c.nets_in_words.ensures.refused
