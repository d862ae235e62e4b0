use Rattle.ix_modules.proofs.OneText.{built_not_refused}
use Rattle.ix_modules.proofs.Differing.{behaviours_apart}
use Rattle.ix_modules.proofs.laws.modules_laws.Goals as goal

pub returns-clause-modules : goal.returns-clause-modules
returns-clause-modules c = built_not_refused

pub returns-clause-apart : goal.returns-clause-apart
returns-clause-apart c = behaviours_apart c.form_laws.ensures.texts
