use Rattle.rv_hart_runs.proofs.Fitting.{known_law, prefixes_law}
use Rattle.rv_hart_runs.proofs.States.{states_law}
use Rattle.rv_hart_runs.proofs.StatesFew.{few_law}
use Rattle.rv_hart_runs.proofs.laws.hart_runs.Goals as goal

pub returns-clause-known : goal.returns-clause-known
returns-clause-known c = known_law c.sight_laws.ensures.units

pub returns-clause-prefix : goal.returns-clause-prefix
returns-clause-prefix c = prefixes_law c.sight_laws.ensures.units

pub returns-clause-state : goal.returns-clause-state
returns-clause-state c =
    states_law c.sight_laws.ensures.keeps c.sight_laws.ensures.written c.sight_laws.ensures.units c.trial_laws.ensures.whole c.trial_laws.ensures.step
    (known_law c.sight_laws.ensures.units)

pub returns-clause-few : goal.returns-clause-few
returns-clause-few c = few_law c.sight_laws.ensures.units (known_law c.sight_laws.ensures.units)
