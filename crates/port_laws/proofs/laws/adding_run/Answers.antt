use Rattle.port_laws.proofs.AddingInputs.{inputs_are, reads_while_held_refused, moves_while_held_refused, stale_operand_refused, reads_twice_refused, moves_at_stop_refused, watched_are, watches_held_refused, blind_at_stop_refused}
use Rattle.port_laws.proofs.laws.adding_run.Goals as goal

pub returns-clause-inputs : goal.returns-clause-inputs
returns-clause-inputs c = inputs_are

pub returns-clause-reads_while_held : goal.returns-clause-reads_while_held
returns-clause-reads_while_held c = reads_while_held_refused

pub returns-clause-moves_while_held : goal.returns-clause-moves_while_held
returns-clause-moves_while_held c = moves_while_held_refused

pub returns-clause-stale_operand : goal.returns-clause-stale_operand
returns-clause-stale_operand c = stale_operand_refused

pub returns-clause-reads_twice : goal.returns-clause-reads_twice
returns-clause-reads_twice c = reads_twice_refused

pub returns-clause-moves_at_stop : goal.returns-clause-moves_at_stop
returns-clause-moves_at_stop c = moves_at_stop_refused

pub returns-clause-watched : goal.returns-clause-watched
returns-clause-watched c = watched_are

pub returns-clause-watches_held : goal.returns-clause-watches_held
returns-clause-watches_held c = watches_held_refused

pub returns-clause-blind_at_stop : goal.returns-clause-blind_at_stop
returns-clause-blind_at_stop c = blind_at_stop_refused
