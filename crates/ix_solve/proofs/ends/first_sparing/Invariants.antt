use Rattle.std.proofs.Common.{◌≡◌, ℕ, ◌<◌, pos, get_or}
use Rattle.ix_residual.specs.Residuals.{spare_of}
use Rattle.ix_solve.proofs.ends.first_sparing.Given as goal

abbrev pub invariant-nodes : goal.invariant-nodes
invariant-nodes l = (k : ℕ) → k < l.node → spare_of (get_or l.left k (pos 0)) ≡ 0
