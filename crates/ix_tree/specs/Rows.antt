-- Statements and lists of statements of the code without where they lie in memory.
use Rattle.std.specs.Prelude.{List, [], ◌∷◌}
use Rattle.ix_tree.specs.declared.stmt.Stmt.{Stmt}
use Rattle.ix_tree.specs.Trees.{StmtTree, StmtRow, row_end, row_more}
use Rattle.ix_tree.specs.View.{view_stmt}

abbrev pub view_whole : Stmt → StmtTree
view_whole s = view_stmt s.span s.kind

abbrev pub view_items : List Stmt → StmtRow
view_items [] = row_end
view_items (s ∷ ss) = row_more (view_whole s) (view_items ss)
