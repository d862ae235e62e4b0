use Rattle.ix_cells.proofs.Steps.{pair_of}
use Rattle.ix_cells.proofs.extending.both_extended.Goals as goal

pub returns : goal.returns
returns c = pair_of c.in_ok-left.ensures c.in_ok-right.ensures
