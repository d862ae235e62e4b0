use Rattle.row_laws.proofs.LateEntryRows.{late_lawful, taken_at_flushed_refused, jump_followed_refused, jump_alone_refused}
use Rattle.row_laws.proofs.laws.late_entry_run.Goals as goal

pub returns-clause-rows : goal.returns-clause-rows
returns-clause-rows c = late_lawful

pub returns-clause-taken_at_flushed : goal.returns-clause-taken_at_flushed
returns-clause-taken_at_flushed c = taken_at_flushed_refused

pub returns-clause-jump_followed : goal.returns-clause-jump_followed
returns-clause-jump_followed c = jump_followed_refused

pub returns-clause-jump_alone : goal.returns-clause-jump_alone
returns-clause-jump_alone c = jump_alone_refused
