use Rattle.std.proofs.Common.{get_or, drop, ◌+◌}
use Rattle.std.proofs.lemmas.List.{drop_more}
use Rattle.ix_terms.specs.Stores.{stock_of}
use Rattle.ix_flow.proofs.Visiting.{visiting_step, visiting_err}
use Rattle.ix_flow.proofs.order.visit_all.Goals as goal

pub loop-root-preserved : goal.loop-root-preserved
loop-root-preserved c =
    let xs = c.args.roots.now in
    let k = c.loop-root.root-index in
    visiting_step (stock_of c.args.store.now) c.args.order.now.items c.loop-root.order.items c.visit.new.order.items xs (drop k xs) (drop (k + 1) xs) (get_or xs k 0) c.loop-root.invariant (drop_more xs k 0 c.loop-root-test.true) c.in-Ok.ensures

pub returns-in-Err : goal.returns-in-Err
returns-in-Err c =
    let xs = c.args.roots.now in
    let k = c.loop-root.root-index in
    visiting_err (stock_of c.args.store.now) c.args.order.now.items c.loop-root.order.items c.visit.new.order.items xs (drop k xs) (drop (k + 1) xs) (get_or xs k 0) c.in-Err.error c.loop-root.invariant (drop_more xs k 0 c.loop-root-test.true) c.in-Err.ensures
