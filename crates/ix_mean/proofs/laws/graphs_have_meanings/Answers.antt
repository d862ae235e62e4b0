use Rattle.ix_mean.proofs.GraphMeanings.{have_meanings}
use Rattle.ix_mean.proofs.laws.graphs_have_meanings.Goals as goal

pub returns : goal.returns
returns c = have_meanings
