use Rattle.ix_mean.specs.Order.{postorder}
use Rattle.ix_terms.specs.Stores.{at, stock_of}
use Rattle.ix_flow.specs.Searches.{IsSearching, weights}
use Rattle.ix_flow.proofs.order.visit.Given as goal

abbrev pub invariant-loop-task : goal.invariant-loop-task
invariant-loop-task l = IsSearching (stock_of l.store) l.fn.order.items l.order.items l.tasks.items (postorder (at (stock_of l.store) l.k))

abbrev pub decreases-loop-task : goal.decreases-loop-task
decreases-loop-task l = weights (stock_of l.store) l.tasks.items
