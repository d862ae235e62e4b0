use Rattle.row_laws.proofs.DetourRows.{detour_lawful, unflushed_refused, no_redirect_refused, missing_stop_refused}
use Rattle.row_laws.proofs.laws.detour_run.Goals as goal

pub returns-clause-rows : goal.returns-clause-rows
returns-clause-rows c = detour_lawful

pub returns-clause-unflushed : goal.returns-clause-unflushed
returns-clause-unflushed c = unflushed_refused

pub returns-clause-no_redirect : goal.returns-clause-no_redirect
returns-clause-no_redirect c = no_redirect_refused

pub returns-clause-missing_stop : goal.returns-clause-missing_stop
returns-clause-missing_stop c = missing_stop_refused
