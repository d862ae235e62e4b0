use Rattle.std.proofs.Common.{◌∙◌}
use Rattle.ix_terms.specs.Stores.{stock_of}
use Rattle.ix_flow.proofs.Visiting.{listed}
use Rattle.ix_flow.proofs.order.is_listed.Goals as goal

pub returns : goal.returns
returns c = c.is_in.ensures ∙ listed (stock_of c.args.store.now) c.same_as_place.ensures c.args.k c.requires.below c.args.order.now c.requires.places
