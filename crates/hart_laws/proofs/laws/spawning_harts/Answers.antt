use Rattle.hart_laws.proofs.SpawningRows.{passing_are, passing_applied, sharing_are}
use Rattle.hart_laws.proofs.laws.spawning_harts.Goals as goal

pub returns-clause-passing : goal.returns-clause-passing
returns-clause-passing c = passing_are

pub returns-clause-sharing : goal.returns-clause-sharing
returns-clause-sharing c = sharing_are

pub returns-clause-applied : goal.returns-clause-applied
returns-clause-applied c = passing_applied
