use Rattle.std.proofs.Common.{List, subst, sym}
use Rattle.ix_graph.specs.declared.graph.Op.{Op}
use Rattle.ix_terms.specs.Stores.{stock_of}
use Rattle.ix_flow.specs.Orders.{terms_at}
use Rattle.ix_flow.specs.Flows.{AreOpsOf}
use Rattle.ix_flow.proofs.Graphing.{ops_end}
use Rattle.ix_flow.proofs.graph.ops_of.Goals as goal

pub returns : goal.returns
returns c =
    let all = terms_at (stock_of c.args.store.now) c.args.order.now in
    let P : List Op → Type 0 = λ os. AreOpsOf all all os in
    subst P (sym c.from_vec.ensures) (ops_end (stock_of c.args.store.now) all c.args.order.now c.loop-k.k-index c.loop-k.out.items c.loop-k-test.false c.loop-k.invariant)
