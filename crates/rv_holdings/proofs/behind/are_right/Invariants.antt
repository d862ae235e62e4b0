use Rattle.std.proofs.Common.{ℕ, ◌<◌}
use Rattle.rv_holdings.specs.Expected.{IsRightBehind}
use Rattle.rv_holdings.proofs.behind.are_right.Given as goal

abbrev pub invariant-loop-stage : goal.invariant-loop-stage
invariant-loop-stage l = (stage : ℕ) → stage < l.stage → IsRightBehind l.shape l.row l.asks l.stopped stage
