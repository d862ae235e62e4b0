use Rattle.port_laws.proofs.LinkingInputs.{inputs_are, of_file_refused, flushed_moves_refused}
use Rattle.port_laws.proofs.laws.linking_run.Goals as goal

pub returns-clause-inputs : goal.returns-clause-inputs
returns-clause-inputs c = inputs_are

pub returns-clause-of_file : goal.returns-clause-of_file
returns-clause-of_file c = of_file_refused

pub returns-clause-flushed_moves : goal.returns-clause-flushed_moves
returns-clause-flushed_moves c = flushed_moves_refused
