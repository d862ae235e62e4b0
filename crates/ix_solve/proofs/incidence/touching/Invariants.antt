use Rattle.ix_solve.specs.Forests.{AreTouching}
use Rattle.ix_solve.proofs.incidence.touching.Given as goal

abbrev pub invariant-bounds : goal.invariant-bounds
invariant-bounds l = AreTouching l.network.root l.network.bounds l.lists.items
