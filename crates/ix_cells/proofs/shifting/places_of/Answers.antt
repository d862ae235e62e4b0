use Rattle.std.proofs.Common.{arith}
use Rattle.ix_cells.proofs.Moving.{places_few}
use Rattle.ix_cells.proofs.shifting.places_of.Goals as goal

pub returns-clause-few : goal.returns-clause-few
returns-clause-few c = places_few c.args.width c.from.result c.least_width.result (omega arith) (omega arith) c.least_width.ensures.some c.least_width.ensures.least
