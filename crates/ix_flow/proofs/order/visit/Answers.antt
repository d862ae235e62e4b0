use Rattle.ix_mean.specs.Order.{postorder}
use Rattle.ix_terms.specs.Stores.{at, stock_of}
use Rattle.ix_flow.proofs.Searching.{task_ready, searching_step, searching_less, searching_err}
use Rattle.ix_flow.proofs.order.visit.Goals as goal

pub step-requires-clause-ready : goal.step-requires-clause-ready
step-requires-clause-ready c =
    task_ready (stock_of c.args.store.now) c.args.order.now.items c.loop-task.order.items c.loop-task.tasks.items c.pop.new.self.items c.in-Some.task (postorder (at (stock_of c.args.store.now) c.args.k)) c.loop-task.invariant c.in-Some.ensures.items

pub loop-task-smaller : goal.loop-task-smaller
loop-task-smaller c =
    searching_less (stock_of c.args.store.now) c.loop-task.order.items c.step.new.order.items c.loop-task.tasks.items c.pop.new.self.items c.step.new.tasks.items c.in-Some.task c.in-Some.ensures.items c.in-Ok.ensures

pub loop-task-preserved : goal.loop-task-preserved
loop-task-preserved c =
    searching_step (stock_of c.args.store.now) c.args.order.now.items c.loop-task.order.items c.step.new.order.items c.loop-task.tasks.items c.pop.new.self.items c.step.new.tasks.items c.in-Some.task _ c.loop-task.invariant c.in-Some.ensures.items
    c.in-Ok.ensures

pub returns-in-Err : goal.returns-in-Err
returns-in-Err c =
    searching_err (stock_of c.args.store.now) c.args.order.now.items c.loop-task.order.items c.step.new.order.items c.step.new.order.items c.loop-task.tasks.items c.pop.new.self.items c.step.new.tasks.items c.in-Some.task (postorder (at (stock_of c.args.store.now) c.args.k)) c.in-Err.error c.loop-task.invariant
    c.in-Some.ensures.items c.in-Err.ensures
