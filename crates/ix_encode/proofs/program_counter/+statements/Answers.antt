use Rattle.std.proofs.Common.{◌∙◌, List, sym, ap, refl}
use Rattle.ix_tree.specs.declared.typed.TypedStmt.{TypedStmt}
use Rattle.ix_tree.specs.TypedView.{typed_items, typed_stmt}
use Rattle.ix_tree.proofs.TypedViews.{typed_block_view}
use Rattle.ix_extension.specs.Faults.{writes_pc, row_writes_pc}
use Rattle.ix_encode.proofs.Rests.{row_pc_rest}
use Rattle.ix_encode.proofs.program_counter.+statements.Goals as goal

pub writes_pc-returns-in-Block : goal.writes_pc-returns-in-Block
writes_pc-returns-in-Block t c =
    let x = c.args.stmt.now in
    c.row_writes_pc.ensures
    ∙ ap (λ (xs : List TypedStmt). row_writes_pc (typed_items xs)) c.as_slice.ensures
    ∙ sym (ap writes_pc (ap (typed_stmt x.span) c.in-Block.is ∙ typed_block_view x.span c.in-Block.all))

pub row_writes_pc-returns-then-writes_pc : goal.row_writes_pc-returns-then-writes_pc
row_writes_pc-returns-then-writes_pc t c =
    let e = sym c.writes_pc.ensures ∙ c.if-writes_pc.true in
    sym (c.loop-stmt.invariant ∙ row_pc_rest c.args.all.now c.loop-stmt.stmt-index c.stmt-item.result c.loop-stmt-test.true c.stmt-item.is ∙ rw e refl)
