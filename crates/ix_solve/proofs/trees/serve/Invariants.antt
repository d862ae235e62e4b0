use Rattle.std.proofs.Common.{◌≡◌, ◌<◌, ◌≤◌, true, get_or}
use Rattle.std.specs.Prelude.{sum_by}
use Rattle.ix_residual.specs.Residuals.{need_of}
use Rattle.ix_solve.specs.State.{IsOnWay}
use Rattle.ix_solve.proofs.trees.serve.Given as goal

abbrev pub invariant-targets : goal.invariant-targets
invariant-targets l = record {
  way : IsOnWay l.p l.initial.residual.bounds l.network (λ v. get_or l.times v 0) l.residual l.paths;
  less : sum_by need_of l.residual.left ≤ sum_by need_of l.initial.residual.left;
  moved : l.moved ≡ true → sum_by need_of l.residual.left < sum_by need_of l.initial.residual.left;
}
