use Rattle.row_laws.proofs.TurningRows.{turning_lawful, unflushed_refused, one_unflushed_refused, no_redirect_refused, late_left_out_refused}
use Rattle.row_laws.proofs.laws.turning_run.Goals as goal

pub returns-clause-rows : goal.returns-clause-rows
returns-clause-rows c = turning_lawful

pub returns-clause-unflushed : goal.returns-clause-unflushed
returns-clause-unflushed c = unflushed_refused

pub returns-clause-one_unflushed : goal.returns-clause-one_unflushed
returns-clause-one_unflushed c = one_unflushed_refused

pub returns-clause-no_redirect : goal.returns-clause-no_redirect
returns-clause-no_redirect c = no_redirect_refused

pub returns-clause-late_left_out : goal.returns-clause-late_left_out
returns-clause-late_left_out c = late_left_out_refused
