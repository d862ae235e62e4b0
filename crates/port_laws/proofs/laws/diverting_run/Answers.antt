use Rattle.port_laws.proofs.DivertingInputs.{watched_are, goes_on_refused, entry_unseen_refused, of_one_run, idle_are, flushed_moves_refused}
use Rattle.port_laws.proofs.laws.diverting_run.Goals as goal

pub returns-clause-watched : goal.returns-clause-watched
returns-clause-watched c = watched_are

pub returns-clause-goes_on : goal.returns-clause-goes_on
returns-clause-goes_on c = goes_on_refused

pub returns-clause-entry_unseen : goal.returns-clause-entry_unseen
returns-clause-entry_unseen c = entry_unseen_refused

pub returns-clause-of_one_run : goal.returns-clause-of_one_run
returns-clause-of_one_run c = of_one_run

pub returns-clause-idle : goal.returns-clause-idle
returns-clause-idle c = idle_are

pub returns-clause-flushed_moves : goal.returns-clause-flushed_moves
returns-clause-flushed_moves c = flushed_moves_refused
