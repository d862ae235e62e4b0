use Rattle.std.proofs.Common.{◌≡◌, map, take}
use Rattle.ix_solve.specs.Search.{step_at}
use Rattle.ix_solve.specs.Networks.{step_of}
use Rattle.ix_solve.proofs.longest.path_of.Given as goal

abbrev pub invariant-steps : goal.invariant-steps
invariant-steps l = l.path ≡ map (λ j. step_of l.network (step_at l.log j).place) (take l.number-index l.steps)
