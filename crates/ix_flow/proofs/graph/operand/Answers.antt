use Rattle.ix_terms.specs.Stores.{stock_of}
use Rattle.ix_flow.proofs.Graphing.{listed_there}
use Rattle.ix_flow.proofs.graph.operand.Goals as goal

pub place_in-requires-clause-there : goal.place_in-requires-clause-there
place_in-requires-clause-there c = listed_there (stock_of c.args.store.now) c.args.order.now c.args.k c.same_as_place.ensures c.requires.below c.requires.order.below c.requires.there.there
