use Rattle.ix_eval.proofs.NamedLoads.{named_load_law}
use Rattle.ix_eval.proofs.laws.load_law.Goals as goal

pub returns : goal.returns
returns c = named_load_law c.behaviour_laws.ensures.reads
