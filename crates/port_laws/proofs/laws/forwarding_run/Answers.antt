use Rattle.port_laws.proofs.ForwardingInputs.{inputs_are, of_file_refused, of_older_refused}
use Rattle.port_laws.proofs.laws.forwarding_run.Goals as goal

pub returns-clause-inputs : goal.returns-clause-inputs
returns-clause-inputs c = inputs_are

pub returns-clause-of_file : goal.returns-clause-of_file
returns-clause-of_file c = of_file_refused

pub returns-clause-of_older : goal.returns-clause-of_older
returns-clause-of_older c = of_older_refused
