use Rattle.ix_net.proofs.OneValuation.{one_valuation}
use Rattle.ix_net.proofs.laws.has_one_valuation.Goals as goal

pub returns : goal.returns
returns c = one_valuation
