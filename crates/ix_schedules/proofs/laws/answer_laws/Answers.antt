use Rattle.ix_schedules.proofs.OneAnswer.{scheduled_not_refused, one_refusal}
use Rattle.ix_schedules.proofs.laws.answer_laws.Goals as goal

pub returns-clause-report : goal.returns-clause-report
returns-clause-report c = scheduled_not_refused

pub returns-clause-refusal : goal.returns-clause-refusal
returns-clause-refusal c = one_refusal
