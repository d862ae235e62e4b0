use Rattle.port_laws.proofs.WaitingInputs.{inputs_are, silent_behind_refused, moves_behind_refused, idle_refused, watched_are, written_late_refused, blind_at_stop_refused}
use Rattle.port_laws.proofs.laws.waiting_run.Goals as goal

pub returns-clause-inputs : goal.returns-clause-inputs
returns-clause-inputs c = inputs_are

pub returns-clause-silent_behind : goal.returns-clause-silent_behind
returns-clause-silent_behind c = silent_behind_refused

pub returns-clause-moves_behind : goal.returns-clause-moves_behind
returns-clause-moves_behind c = moves_behind_refused

pub returns-clause-idle : goal.returns-clause-idle
returns-clause-idle c = idle_refused

pub returns-clause-watched : goal.returns-clause-watched
returns-clause-watched c = watched_are

pub returns-clause-written_late : goal.returns-clause-written_late
returns-clause-written_late c = written_late_refused

pub returns-clause-blind_at_stop : goal.returns-clause-blind_at_stop
returns-clause-blind_at_stop c = blind_at_stop_refused
