use Rattle.ix_neteval.proofs.Simulating.{simulators_run}
use Rattle.ix_neteval.proofs.laws.simulators_run.Goals as goal

pub returns : goal.returns
returns c = simulators_run
