use Rattle.ix_terms.specs.Stores.{stock_of}
use Rattle.ix_flow.proofs.Searching.{left_as}
use Rattle.ix_flow.proofs.order.step.Goals as goal

pub returns-in-Leave : goal.returns-in-Leave
returns-in-Leave c =
    left_as (stock_of c.args.store.now) c.args.order.now.items c.leave.new.order.items c.args.tasks.now.items c.in-Leave.k c.args.task c.leave.result c.in-Leave.is c.requires.order c.requires.ready c.leave.ensures
