use Rattle.std.proofs.Common.{get_or}
use Rattle.ix_solve.specs.Forests.{IsForest}
use Rattle.ix_solve.proofs.forest.grown.Given as goal

abbrev pub invariant-entries : goal.invariant-entries
invariant-entries l = IsForest l.network (λ v. get_or l.times v 0) l.forest
