use Rattle.std.proofs.Common.{◌≡◌, ◌++◌, drop, map}
use Rattle.rv_asks.specs.Asks.{plan_outline}
use Rattle.rv_asks.proofs.asking.outlines.Given as goal

-- the outlines so far and those to come are all
abbrev pub invariant-loop-plan : goal.invariant-loop-plan
invariant-loop-plan l = l.all ++ map (plan_outline l.shape l.blocks) (drop l.plan-index l.plans) ≡ map (plan_outline l.shape l.blocks) l.plans
