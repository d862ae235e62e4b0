use Rattle.rv_seq.proofs.NamedAccesses.{named_access_law}
use Rattle.rv_seq.proofs.laws.access_law.Goals as goal

pub returns : goal.returns
returns c = named_access_law c.load_law.ensures
