use Rattle.std.proofs.Common.{◌≤◌, get_or}
use Rattle.std.specs.Prelude.{sum_by}
use Rattle.ix_residual.specs.Residuals.{need_of}
use Rattle.ix_solve.specs.State.{IsOnWay}
use Rattle.ix_solve.proofs.trees.exhaust.Given as goal

abbrev pub invariant-forests : goal.invariant-forests
invariant-forests l = record {
  way : IsOnWay l.p l.initial.residual.bounds l.network (λ v. get_or l.times v 0) l.residual l.paths;
  less : sum_by need_of l.residual.left ≤ sum_by need_of l.initial.residual.left;
}

abbrev pub decreases-forests : goal.decreases-forests
decreases-forests l = sum_by need_of l.residual.left
