use Rattle.netgen_laws.proofs.Timed.{timed_from}
use Rattle.netgen_laws.proofs.laws.times_fit.Goals as goal

pub returns : goal.returns
returns c = timed_from
