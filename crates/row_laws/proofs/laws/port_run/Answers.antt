use Rattle.row_laws.proofs.SpawningRows.{port_lawful}
use Rattle.row_laws.proofs.SpawningOthers.{port_left_out_refused, port_without_write_refused, stop_before_write_refused, stop_left_out_refused}
use Rattle.row_laws.proofs.SpawningStates.{port_agrees}
use Rattle.row_laws.proofs.laws.port_run.Goals as goal

pub returns-clause-rows : goal.returns-clause-rows
returns-clause-rows c = port_lawful

pub returns-clause-agrees : goal.returns-clause-agrees
returns-clause-agrees c = port_agrees

pub returns-clause-port_left_out : goal.returns-clause-port_left_out
returns-clause-port_left_out c = port_left_out_refused

pub returns-clause-port_without_write : goal.returns-clause-port_without_write
returns-clause-port_without_write c = port_without_write_refused

pub returns-clause-stop_before_write : goal.returns-clause-stop_before_write
returns-clause-stop_before_write c = stop_before_write_refused

pub returns-clause-stop_left_out : goal.returns-clause-stop_left_out
returns-clause-stop_left_out c = stop_left_out_refused
