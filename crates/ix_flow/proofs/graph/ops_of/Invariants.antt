use Rattle.std.proofs.Common.{List, drop, ◌++◌}
use Rattle.ix_graph.specs.declared.graph.Op.{Op}
use Rattle.ix_terms.specs.Stores.{stock_of}
use Rattle.ix_flow.specs.Orders.{terms_at}
use Rattle.ix_flow.specs.Flows.{AreOpsOf}
use Rattle.ix_flow.proofs.graph.ops_of.Given as goal

abbrev pub invariant-loop-k : goal.invariant-loop-k
invariant-loop-k l =
    (os : List Op) → AreOpsOf (terms_at (stock_of l.store) l.order) (terms_at (stock_of l.store) (drop l.k-index l.order)) os → AreOpsOf (terms_at (stock_of l.store) l.order) (terms_at (stock_of l.store) l.order) (l.out.items ++ os)
