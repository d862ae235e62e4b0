use Rattle.row_laws.proofs.ForwardingRows.{short_lawful, never_forwarded_refused, long_lawful, forwarded_early_refused, waits_for_forwarded_refused, waits_longer_refused}
use Rattle.row_laws.proofs.laws.forwarding_run.Goals as goal

pub returns-clause-short : goal.returns-clause-short
returns-clause-short c = short_lawful

pub returns-clause-never_forwarded : goal.returns-clause-never_forwarded
returns-clause-never_forwarded c = never_forwarded_refused

pub returns-clause-long : goal.returns-clause-long
returns-clause-long c = long_lawful

pub returns-clause-forwarded_early : goal.returns-clause-forwarded_early
returns-clause-forwarded_early c = forwarded_early_refused

pub returns-clause-waits_for_forwarded : goal.returns-clause-waits_for_forwarded
returns-clause-waits_for_forwarded c = waits_for_forwarded_refused

pub returns-clause-waits_longer : goal.returns-clause-waits_longer
returns-clause-waits_longer c = waits_longer_refused
