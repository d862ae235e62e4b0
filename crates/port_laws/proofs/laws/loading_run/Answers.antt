use Rattle.port_laws.proofs.LoadingInputs.{inputs_are, reads_while_waiting_refused, goes_while_waiting_refused, reads_before_store_refused, reads_twice_refused, one_enable_refused, goes_at_retirement_refused}
use Rattle.port_laws.proofs.laws.loading_run.Goals as goal

pub returns-clause-inputs : goal.returns-clause-inputs
returns-clause-inputs c = inputs_are

pub returns-clause-reads_while_waiting : goal.returns-clause-reads_while_waiting
returns-clause-reads_while_waiting c = reads_while_waiting_refused

pub returns-clause-goes_while_waiting : goal.returns-clause-goes_while_waiting
returns-clause-goes_while_waiting c = goes_while_waiting_refused

pub returns-clause-reads_before_store : goal.returns-clause-reads_before_store
returns-clause-reads_before_store c = reads_before_store_refused

pub returns-clause-reads_twice : goal.returns-clause-reads_twice
returns-clause-reads_twice c = reads_twice_refused

pub returns-clause-one_enable : goal.returns-clause-one_enable
returns-clause-one_enable c = one_enable_refused

pub returns-clause-goes_at_retirement : goal.returns-clause-goes_at_retirement
returns-clause-goes_at_retirement c = goes_at_retirement_refused
