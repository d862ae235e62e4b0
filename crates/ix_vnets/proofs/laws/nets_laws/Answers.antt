use Rattle.ix_vnets.proofs.Finishing.{modules_finished}
use Rattle.ix_vnets.proofs.Denoting.{net_from, made_from}
use Rattle.ix_vnets.proofs.Once.{one_made}
use Rattle.ix_vnets.proofs.Modules.{first_of_all, no_misfit}
use Rattle.ix_vnets.proofs.Numbered.{drives_numbered}
use Rattle.ix_vnets.proofs.laws.nets_laws.Goals as goal

pub returns-clause-finished : goal.returns-clause-finished
returns-clause-finished c = modules_finished

pub returns-clause-net : goal.returns-clause-net
returns-clause-net c = net_from

pub returns-clause-made : goal.returns-clause-made
returns-clause-made c = made_from

pub returns-clause-once : goal.returns-clause-once
returns-clause-once c = λ s n m fin once h k. one_made s fin once n m h k

pub returns-clause-misfit : goal.returns-clause-misfit
returns-clause-misfit c = first_of_all

pub returns-clause-fits : goal.returns-clause-fits
returns-clause-fits c = no_misfit

pub returns-clause-numbered : goal.returns-clause-numbered
returns-clause-numbered c = drives_numbered
