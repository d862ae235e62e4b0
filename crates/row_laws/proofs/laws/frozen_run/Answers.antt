use Rattle.row_laws.proofs.SpawningRows.{frozen_lawful}
use Rattle.row_laws.proofs.SpawningOthers.{full_left_out_refused, full_of_another_refused, higher_written_refused, frozen_moves_refused, drain_left_out_refused}
use Rattle.row_laws.proofs.SpawningStates.{frozen_agrees, later_left_out_refused}
use Rattle.row_laws.proofs.laws.frozen_run.Goals as goal

pub returns-clause-rows : goal.returns-clause-rows
returns-clause-rows c = frozen_lawful

pub returns-clause-agrees : goal.returns-clause-agrees
returns-clause-agrees c = frozen_agrees

pub returns-clause-full_left_out : goal.returns-clause-full_left_out
returns-clause-full_left_out c = full_left_out_refused

pub returns-clause-full_of_another : goal.returns-clause-full_of_another
returns-clause-full_of_another c = full_of_another_refused

pub returns-clause-higher_written : goal.returns-clause-higher_written
returns-clause-higher_written c = higher_written_refused

pub returns-clause-frozen_moves : goal.returns-clause-frozen_moves
returns-clause-frozen_moves c = frozen_moves_refused

pub returns-clause-drain_left_out : goal.returns-clause-drain_left_out
returns-clause-drain_left_out c = drain_left_out_refused

pub returns-clause-later_left_out : goal.returns-clause-later_left_out
returns-clause-later_left_out c = later_left_out_refused
