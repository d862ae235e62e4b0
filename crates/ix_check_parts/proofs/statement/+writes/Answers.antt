use Rattle.std.proofs.Common.{◌≡◌, ◌∙◌, sym, ap, List}
use Rattle.ix_tree.specs.declared.stmt.Stmt.{Stmt}
use Rattle.ix_tree.specs.Trees.{StmtTree}
use Rattle.ix_tree.specs.Rows.{view_items}
use Rattle.ix_tree.proofs.Views.{block_whole}
use Rattle.ix_typing.specs.Statements.{writes_target, row_writes}
use Rattle.ix_check_parts.proofs.statement.+writes.Goals as goal

pub writes_target-returns-in-Block : goal.writes_target-returns-in-Block
writes_target-returns-in-Block t c =
    let names = c.args.names.now in
    c.any_writes.ensures ∙ ap (λ (zs : List Stmt). row_writes names (view_items zs)) c.as_slice.ensures
    ∙ ap (λ (z : StmtTree). writes_target names z) (sym (block_whole c.args.stmt.now c.in-Block.all c.in-Block.is))
