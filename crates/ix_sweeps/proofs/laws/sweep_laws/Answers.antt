use Rattle.ix_sweeps.proofs.Own.{text_own}
use Rattle.ix_sweeps.proofs.Printed.{swept_faultless}
use Rattle.ix_sweeps.proofs.OneAnswer.{swept_not_refused}
use Rattle.ix_sweeps.proofs.laws.sweep_laws.Goals as goal

pub returns-clause-own : goal.returns-clause-own
returns-clause-own c = text_own

pub returns-clause-faultless : goal.returns-clause-faultless
returns-clause-faultless c = swept_faultless

pub returns-clause-refusal : goal.returns-clause-refusal
returns-clause-refusal c = swept_not_refused
