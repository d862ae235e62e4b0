use Rattle.ix_dump.proofs.Growing.{grow}
use Rattle.ix_dump.proofs.laws.dumps_grow.Goals as goal

pub returns : goal.returns
returns c = grow
