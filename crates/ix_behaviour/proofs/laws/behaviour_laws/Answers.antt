use Rattle.ix_behaviour.proofs.Extensions.{resolved_law, typed_law, effect_law, reads_named_law, one_access_law, few_law}
use Rattle.ix_behaviour.proofs.laws.behaviour_laws.Goals as goal

pub returns-clause-resolved : goal.returns-clause-resolved
returns-clause-resolved c = resolved_law c.form_laws.ensures.texts

pub returns-clause-typed : goal.returns-clause-typed
returns-clause-typed c = typed_law c.form_laws.ensures.texts

pub returns-clause-effect : goal.returns-clause-effect
returns-clause-effect c = effect_law c.form_laws.ensures.texts

pub returns-clause-reads : goal.returns-clause-reads
returns-clause-reads c = reads_named_law c.form_laws.ensures.texts

pub returns-clause-one_access : goal.returns-clause-one_access
returns-clause-one_access c = one_access_law c.form_laws.ensures.texts

pub returns-clause-few : goal.returns-clause-few
returns-clause-few c = few_law c.form_laws.ensures.texts
