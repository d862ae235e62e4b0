use Rattle.std.proofs.Common.{◌≡◌, ◌++◌, drop}
use Rattle.rv_asks.specs.Acts.{acts_of_all}
use Rattle.rv_asks.proofs.acts.add_all_acts.Given as goal

-- the operations so far and those to come are all
abbrev pub invariant-loop-plan : goal.invariant-loop-plan
invariant-loop-plan l = l.acts ++ acts_of_all (drop l.plan-index l.plans) ≡ l.fn.acts ++ acts_of_all l.plans
