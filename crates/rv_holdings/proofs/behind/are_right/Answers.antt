use Rattle.std.proofs.Common.{refl, arith}
use Rattle.rv_holdings.specs.Expected.{IsRightBehind}
use Rattle.rv_holdings.proofs.Each.{each_step}
use Rattle.rv_holdings.proofs.behind.are_right.Goals as goal

pub returns-then-not-is_right-clause-all : goal.returns-then-not-is_right-clause-all
returns-then-not-is_right-clause-all c = λ r. c.if-not-is_right.ensures.all (r c.loop-stage.stage c.loop-stage-test.true)

pub loop-stage-preserved : goal.loop-stage-preserved
loop-stage-preserved c =
    each_step (λ s. IsRightBehind c.args.shape c.args.row.now c.args.asks.now c.args.stopped s) c.loop-stage.stage c.loop-stage.invariant (c.if-not-is_right.ensures.only refl)

pub returns-clause-only : goal.returns-clause-only
returns-clause-only c = λ t s lt. let end = c.loop-stage-test.false in c.loop-stage.invariant s (omega (arith, lt, end))
