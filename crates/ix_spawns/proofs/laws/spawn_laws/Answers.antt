use Rattle.ix_spawns.proofs.Targets.{registers_law}
use Rattle.ix_spawns.proofs.laws.spawn_laws.Goals as goal

pub returns : goal.returns
returns c = record { registers = registers_law c.form_laws.ensures.texts }
