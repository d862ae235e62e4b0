use Rattle.std.proofs.Common.{drop}
use Rattle.ix_residual.specs.Residuals.{AreAugmentations}
use Rattle.schedule_cases.proofs.problems.replay.Given as goal

abbrev pub invariant-paths : goal.invariant-paths
invariant-paths l = AreAugmentations l.residual (drop l.path-index l.paths)
