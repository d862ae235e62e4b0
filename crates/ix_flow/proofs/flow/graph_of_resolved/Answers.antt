use Rattle.ix_mean.specs.View.{view_statements}
use Rattle.ix_terms.specs.Stores.{stock_of}
use Rattle.ix_flow.proofs.Flowing.{order_ready}
use Rattle.ix_flow.proofs.flow.graph_of_resolved.Goals as goal

pub built-requires-clause-ready : goal.built-requires-clause-ready
built-requires-clause-ready c =
    order_ready c.args.source.now (view_statements c.args.source.now.tables c.args.body.now) (stock_of c.in-Ok.rooted.store) c.in-Ok.rooted.roots.items c.as_slice.result.now c.new-order.result.items c.visit_all.new.order.items
    c.as_slice-in-Ok-visit_all.result.now c.in-Ok.ensures c.as_slice.ensures.value c.new-order.ensures.items c.requires.typed c.requires.few_tables c.in-Ok-visit_all.ensures c.as_slice-in-Ok-visit_all.ensures.value
