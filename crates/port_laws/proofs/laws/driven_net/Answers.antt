use Rattle.port_laws.proofs.SummingCycles.{cycles_are, ports_show, unclocked_refused, cycle_more_refused}
use Rattle.port_laws.proofs.laws.driven_net.Goals as goal

pub returns-clause-cycles : goal.returns-clause-cycles
returns-clause-cycles c = cycles_are

pub returns-clause-ports : goal.returns-clause-ports
returns-clause-ports c = ports_show

pub returns-clause-unclocked : goal.returns-clause-unclocked
returns-clause-unclocked c = unclocked_refused

pub returns-clause-cycle_more : goal.returns-clause-cycle_more
returns-clause-cycle_more c = cycle_more_refused
