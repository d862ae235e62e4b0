use Rattle.std.proofs.Common.{◌∙◌, List, sym, ap}
use Rattle.ix_tree.specs.declared.typed.TypedStmt.{TypedStmt}
use Rattle.ix_tree.specs.TypedView.{typed_items, typed_stmt}
use Rattle.ix_tree.proofs.TypedViews.{typed_block_view}
use Rattle.rv_asm_text.specs.Indexing.{stmt_indexes, row_indexes}
use Rattle.rv_asm_text.proofs.indexing.+statements.Goals as goal

pub stmt_indexes-returns-in-Block : goal.stmt_indexes-returns-in-Block
stmt_indexes-returns-in-Block t c =
    let x = c.args.stmt.now in
    c.row_indexes.ensures
    ∙ ap (λ (xs : List TypedStmt). row_indexes c.args.field.now (typed_items xs)) c.as_slice.ensures
    ∙ sym (ap (stmt_indexes c.args.field.now) (ap (typed_stmt x.span) c.in-Block.is ∙ typed_block_view x.span c.in-Block.all))
