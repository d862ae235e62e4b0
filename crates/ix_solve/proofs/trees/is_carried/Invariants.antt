use Rattle.std.proofs.Common.{◌≡◌, drop}
use Rattle.ix_solve.specs.State.{are_carried}
use Rattle.ix_solve.proofs.trees.is_carried.Given as goal

abbrev pub invariant-steps : goal.invariant-steps
invariant-steps l = are_carried l.amounts (drop l.place-index l.steps) ≡ are_carried l.amounts l.steps
