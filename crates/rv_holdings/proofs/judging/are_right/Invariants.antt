use Rattle.std.proofs.Common.{ℕ, ◌<◌}
use Rattle.rv_holdings.specs.Expected.{IsRightAt}
use Rattle.rv_holdings.proofs.judging.are_right.Given as goal

abbrev pub invariant-loop-stage : goal.invariant-loop-stage
invariant-loop-stage l = (stage : ℕ) → stage < l.stage → IsRightAt l.shape l.row l.known l.owed stage
