use Rattle.std.proofs.Common.{◌∙◌, List, sym, ap, refl}
use Rattle.ix_tree.specs.declared.stmt.Stmt.{Stmt}
use Rattle.ix_tree.specs.Rows.{view_items}
use Rattle.ix_tree.specs.Unrolling.{touches, touches_row}
use Rattle.ix_tree.proofs.Views.{block_whole}
use Rattle.ix_unroll.proofs.Assigning.{touches_rest}
use Rattle.ix_unroll.proofs.assigned.+touching.Goals as goal

pub touches-returns-in-Block : goal.touches-returns-in-Block
touches-returns-in-Block t c =
    c.touches_row.ensures
    ∙ ap (λ (xs : List Stmt). touches_row c.args.name.now (view_items xs)) c.as_slice.ensures
    ∙ sym (ap (touches c.args.name.now) (block_whole c.args.stmt.now c.in-Block.all c.in-Block.is))

pub touches_row-returns-then-touches : goal.touches_row-returns-then-touches
touches_row-returns-then-touches t c =
    let e = sym c.touches.ensures ∙ c.if-touches.true in
    sym (c.loop-stmt.invariant ∙ touches_rest c.args.name.now c.args.all.now c.loop-stmt.stmt-index c.stmt-item.result c.loop-stmt-test.true c.stmt-item.is ∙ rw e refl)
