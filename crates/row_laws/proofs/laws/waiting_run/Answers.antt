use Rattle.row_laws.proofs.WaitingRows.{slow_store_lawful, slow_load_lawful}
use Rattle.row_laws.proofs.WaitingOthers.{wait_one_less_refused, wait_one_more_refused, wait_stands_still_refused, wait_left_out_refused, waits_longer_refused, load_passes_refused, ahead_of_another_refused, ahead_longer_refused, drain_left_out_refused, behind_alone_refused, drains_retired_refused, stops_early_refused, store_waits_refused, ahead_before_wait_refused, waits_once_refused, stops_beside_refused}
use Rattle.row_laws.proofs.WaitingStates.{slow_store_agrees, old_value_refused, slow_load_agrees}
use Rattle.row_laws.proofs.laws.waiting_run.Goals as goal

pub returns-clause-slow_store : goal.returns-clause-slow_store
returns-clause-slow_store c = slow_store_lawful

pub returns-clause-wait_one_less : goal.returns-clause-wait_one_less
returns-clause-wait_one_less c = wait_one_less_refused

pub returns-clause-wait_one_more : goal.returns-clause-wait_one_more
returns-clause-wait_one_more c = wait_one_more_refused

pub returns-clause-wait_stands_still : goal.returns-clause-wait_stands_still
returns-clause-wait_stands_still c = wait_stands_still_refused

pub returns-clause-wait_left_out : goal.returns-clause-wait_left_out
returns-clause-wait_left_out c = wait_left_out_refused

pub returns-clause-waits_longer : goal.returns-clause-waits_longer
returns-clause-waits_longer c = waits_longer_refused

pub returns-clause-load_passes : goal.returns-clause-load_passes
returns-clause-load_passes c = load_passes_refused

pub returns-clause-ahead_of_another : goal.returns-clause-ahead_of_another
returns-clause-ahead_of_another c = ahead_of_another_refused

pub returns-clause-ahead_longer : goal.returns-clause-ahead_longer
returns-clause-ahead_longer c = ahead_longer_refused

pub returns-clause-drain_left_out : goal.returns-clause-drain_left_out
returns-clause-drain_left_out c = drain_left_out_refused

pub returns-clause-behind_alone : goal.returns-clause-behind_alone
returns-clause-behind_alone c = behind_alone_refused

pub returns-clause-drains_retired : goal.returns-clause-drains_retired
returns-clause-drains_retired c = drains_retired_refused

pub returns-clause-stops_early : goal.returns-clause-stops_early
returns-clause-stops_early c = stops_early_refused

pub returns-clause-slow_load : goal.returns-clause-slow_load
returns-clause-slow_load c = slow_load_lawful

pub returns-clause-store_waits : goal.returns-clause-store_waits
returns-clause-store_waits c = store_waits_refused

pub returns-clause-ahead_before_wait : goal.returns-clause-ahead_before_wait
returns-clause-ahead_before_wait c = ahead_before_wait_refused

pub returns-clause-waits_once : goal.returns-clause-waits_once
returns-clause-waits_once c = waits_once_refused

pub returns-clause-stops_beside : goal.returns-clause-stops_beside
returns-clause-stops_beside c = stops_beside_refused

pub returns-clause-slow_store_agrees : goal.returns-clause-slow_store_agrees
returns-clause-slow_store_agrees c = slow_store_agrees

pub returns-clause-old_value : goal.returns-clause-old_value
returns-clause-old_value c = old_value_refused

pub returns-clause-slow_load_agrees : goal.returns-clause-slow_load_agrees
returns-clause-slow_load_agrees c = slow_load_agrees
