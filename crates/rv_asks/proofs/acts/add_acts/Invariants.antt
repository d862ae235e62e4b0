use Rattle.std.proofs.Common.{◌≡◌, ◌++◌, drop}
use Rattle.rv_asks.specs.Acts.{acts_of, acts_from}
use Rattle.rv_asks.proofs.acts.add_acts.Given as goal

-- the operations so far and those to come are all
abbrev pub invariant-loop-op : goal.invariant-loop-op
invariant-loop-op l = record {
  at : l.k ≡ l.op-index;
  all : l.acts ++ acts_from l.plan l.k (drop l.op-index l.plan.graph.ops) ≡ l.fn.acts ++ acts_of l.plan;
}
