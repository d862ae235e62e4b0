use Rattle.std.proofs.Common.{drop}
use Rattle.ix_terms.specs.Stores.{stock_of}
use Rattle.ix_flow.proofs.Visiting.{IsVisiting}
use Rattle.ix_flow.proofs.order.visit_all.Given as goal

abbrev pub invariant-loop-root : goal.invariant-loop-root
invariant-loop-root l = IsVisiting (stock_of l.store) l.fn.order.items l.order.items l.roots (drop l.root-index l.roots)
