use Rattle.port_laws.proofs.LeapingInputs.{inputs_are, flushed_moves_refused, watched_are, blind_to_flushed_refused, block_put_off_refused, late_too_early_refused, late_lost_refused}
use Rattle.port_laws.proofs.laws.leaping_run.Goals as goal

pub returns-clause-inputs : goal.returns-clause-inputs
returns-clause-inputs c = inputs_are

pub returns-clause-flushed_moves : goal.returns-clause-flushed_moves
returns-clause-flushed_moves c = flushed_moves_refused

pub returns-clause-watched : goal.returns-clause-watched
returns-clause-watched c = watched_are

pub returns-clause-blind_to_flushed : goal.returns-clause-blind_to_flushed
returns-clause-blind_to_flushed c = blind_to_flushed_refused

pub returns-clause-block_put_off : goal.returns-clause-block_put_off
returns-clause-block_put_off c = block_put_off_refused

pub returns-clause-late_too_early : goal.returns-clause-late_too_early
returns-clause-late_too_early c = late_too_early_refused

pub returns-clause-late_lost : goal.returns-clause-late_lost
returns-clause-late_lost c = late_lost_refused
