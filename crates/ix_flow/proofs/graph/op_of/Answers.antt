use Rattle.std.proofs.Common.{inl, inr, refl, arith}
use Rattle.ix_terms.specs.Stores.{stock_of}
use Rattle.ix_flow.proofs.Graphing.{arg_ready, table_below}
use Rattle.ix_flow.proofs.graph.op_of.Goals as goal

pub overflow_cast-table : goal.overflow_cast-table
overflow_cast-table c =
    let few = table_below (stock_of c.args.store.now) c.args.order.now c.args.k c.in-Entry.table c.in-Entry.ty _ c.requires.ready c.in-Entry.ensures.term in
    omega (arith, few)

pub arg_of-requires-clause-ready : goal.arg_of-requires-clause-ready
arg_of-requires-clause-ready c = arg_ready (stock_of c.args.store.now) c.args.order.now c.args.k c.in-One.a _ c.requires.order c.requires.ready c.in-One.ensures.term c.in-One.ensures.below (inl refl)

pub arg_of-requires-in-Entry-clause-ready : goal.arg_of-requires-in-Entry-clause-ready
arg_of-requires-in-Entry-clause-ready c = arg_ready (stock_of c.args.store.now) c.args.order.now c.args.k c.in-Entry.a _ c.requires.order c.requires.ready c.in-Entry.ensures.term c.in-Entry.ensures.below (inl refl)

pub arg_of-requires-in-Two-clause-ready : goal.arg_of-requires-in-Two-clause-ready
arg_of-requires-in-Two-clause-ready c = arg_ready (stock_of c.args.store.now) c.args.order.now c.args.k c.in-Two.a _ c.requires.order c.requires.ready c.in-Two.ensures.term c.in-Two.ensures.below.0 (inl refl)

pub arg_of-requires-in-Two-2-clause-ready : goal.arg_of-requires-in-Two-2-clause-ready
arg_of-requires-in-Two-2-clause-ready c = arg_ready (stock_of c.args.store.now) c.args.order.now c.args.k c.in-Two.b _ c.requires.order c.requires.ready c.in-Two.ensures.term c.in-Two.ensures.below.1 (inr (inl refl))

pub arg_of-requires-in-Three-clause-ready : goal.arg_of-requires-in-Three-clause-ready
arg_of-requires-in-Three-clause-ready c = arg_ready (stock_of c.args.store.now) c.args.order.now c.args.k c.in-Three.a _ c.requires.order c.requires.ready c.in-Three.ensures.term c.in-Three.ensures.below.0 (inl refl)

pub arg_of-requires-in-Three-2-clause-ready : goal.arg_of-requires-in-Three-2-clause-ready
arg_of-requires-in-Three-2-clause-ready c = arg_ready (stock_of c.args.store.now) c.args.order.now c.args.k c.in-Three.b _ c.requires.order c.requires.ready c.in-Three.ensures.term c.in-Three.ensures.below.1 (inr (inl refl))

pub arg_of-requires-in-Three-3-clause-ready : goal.arg_of-requires-in-Three-3-clause-ready
arg_of-requires-in-Three-3-clause-ready c = arg_ready (stock_of c.args.store.now) c.args.order.now c.args.k c.in-Three.c _ c.requires.order c.requires.ready c.in-Three.ensures.term c.in-Three.ensures.below.2 (inr (inr (inl refl)))
