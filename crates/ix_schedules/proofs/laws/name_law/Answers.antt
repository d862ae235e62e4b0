use Rattle.ix_schedules.proofs.Named.{names_are}
use Rattle.ix_schedules.proofs.laws.name_law.Goals as goal

pub returns : goal.returns
returns c = names_are
