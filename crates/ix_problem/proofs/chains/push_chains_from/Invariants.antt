use Rattle.std.proofs.Common.{◌≡◌, ℕ, ◌++◌, List, map}
use Rattle.ix_sheet.specs.declared.problem.Bound.TheVariants.{Chain}
use Rattle.ix_problem.specs.Reaches.{AreChainsFrom}
use Rattle.ix_problem.proofs.chains.push_chains_from.Given as goal

abbrev pub invariant-ops : goal.invariant-ops
invariant-ops l =
    (paths : List (List ℕ)) × AreChainsFrom l.p l.source l.end l.reaches paths × (l.bounds ≡ l.initial.bounds ++ map Chain paths)
