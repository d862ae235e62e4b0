use Rattle.rv_nets.proofs.Running.{nets_law, all_rows_law}
use Rattle.rv_nets.proofs.laws.nets_law.Goals as goal

pub returns-clause-newest : goal.returns-clause-newest
returns-clause-newest c = nets_law

pub returns-clause-each : goal.returns-clause-each
returns-clause-each c = all_rows_law
