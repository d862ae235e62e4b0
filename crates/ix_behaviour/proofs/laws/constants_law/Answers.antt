use Rattle.ix_behaviour.proofs.Values.{constants_law}
use Rattle.ix_behaviour.proofs.laws.constants_law.Goals as goal

pub returns : goal.returns
returns c = constants_law
