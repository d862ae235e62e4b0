use Rattle.std.proofs.Common.{◌<◌, length, get_or}
use Rattle.ix_solve.specs.Forests.{IsForest}
use Rattle.ix_solve.proofs.forest.grow_from.Given as goal

abbrev pub invariant-places : goal.invariant-places
invariant-places l = IsForest l.network (λ v. get_or l.times v 0) l.forest × (l.number < length l.forest.log.items)
