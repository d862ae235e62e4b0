use Rattle.row_laws.proofs.AddingRows.{adding_lawful, adding_agrees, wrong_value_refused, wrong_order_refused, other_stop_refused}
use Rattle.row_laws.proofs.laws.adding_run.Goals as goal

pub returns-clause-rows : goal.returns-clause-rows
returns-clause-rows c = adding_lawful

pub returns-clause-agrees : goal.returns-clause-agrees
returns-clause-agrees c = adding_agrees

pub returns-clause-wrong_value : goal.returns-clause-wrong_value
returns-clause-wrong_value c = wrong_value_refused

pub returns-clause-wrong_order : goal.returns-clause-wrong_order
returns-clause-wrong_order c = wrong_order_refused

pub returns-clause-other_stop : goal.returns-clause-other_stop
returns-clause-other_stop c = other_stop_refused
