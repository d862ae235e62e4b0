use Rattle.rv_audit.proofs.OneSetting.{one_setting}
use Rattle.rv_audit.proofs.OneAnswer.{one_answer}
use Rattle.rv_audit.proofs.laws.answer_laws.Goals as goal

pub returns-clause-alike : goal.returns-clause-alike
returns-clause-alike c = λ d e stands other alike image waits. one_setting image waits c.chosen_law.ensures.one d e stands other alike

pub returns-clause-one : goal.returns-clause-one
returns-clause-one c = one_answer c.chosen_law.ensures.one c.audit_laws.ensures
