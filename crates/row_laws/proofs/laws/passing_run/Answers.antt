use Rattle.row_laws.proofs.SpawningRows.{passing_lawful}
use Rattle.row_laws.proofs.SpawningOthers.{board_left_out_refused, board_of_another_refused, board_of_younger_refused, board_after_write_refused, none_written_refused, written_early_refused, written_unretired_refused, written_twice_refused}
use Rattle.row_laws.proofs.SpawningStates.{passing_agrees, owes_both, owes_one, writes_one, applies_both, wrong_write_refused, late_native_refused, early_spawn_refused}
use Rattle.row_laws.proofs.laws.passing_run.Goals as goal

pub returns-clause-rows : goal.returns-clause-rows
returns-clause-rows c = passing_lawful

pub returns-clause-agrees : goal.returns-clause-agrees
returns-clause-agrees c = passing_agrees

pub returns-clause-owes_both : goal.returns-clause-owes_both
returns-clause-owes_both c = owes_both

pub returns-clause-owes_one : goal.returns-clause-owes_one
returns-clause-owes_one c = owes_one

pub returns-clause-writes_one : goal.returns-clause-writes_one
returns-clause-writes_one c = writes_one

pub returns-clause-applies_both : goal.returns-clause-applies_both
returns-clause-applies_both c = applies_both

pub returns-clause-board_left_out : goal.returns-clause-board_left_out
returns-clause-board_left_out c = board_left_out_refused

pub returns-clause-board_of_another : goal.returns-clause-board_of_another
returns-clause-board_of_another c = board_of_another_refused

pub returns-clause-board_of_younger : goal.returns-clause-board_of_younger
returns-clause-board_of_younger c = board_of_younger_refused

pub returns-clause-board_after_write : goal.returns-clause-board_after_write
returns-clause-board_after_write c = board_after_write_refused

pub returns-clause-none_written : goal.returns-clause-none_written
returns-clause-none_written c = none_written_refused

pub returns-clause-written_early : goal.returns-clause-written_early
returns-clause-written_early c = written_early_refused

pub returns-clause-written_unretired : goal.returns-clause-written_unretired
returns-clause-written_unretired c = written_unretired_refused

pub returns-clause-written_twice : goal.returns-clause-written_twice
returns-clause-written_twice c = written_twice_refused

pub returns-clause-wrong_write : goal.returns-clause-wrong_write
returns-clause-wrong_write c = wrong_write_refused

pub returns-clause-late_native : goal.returns-clause-late_native
returns-clause-late_native c = late_native_refused

pub returns-clause-early_spawn : goal.returns-clause-early_spawn
returns-clause-early_spawn c = early_spawn_refused
