-- Blocks of the code and those of the grammar.
use Rattle.std.proofs.Common.{◌≡◌, List, [], ◌∷◌, ◌++◌, map, refl, ap, ◌∙◌}
use Rattle.std.proofs.lemmas.List.{map-append}
use Rattle.ix_tree.specs.declared.token.Span.{Span}
use Rattle.ix_tree.specs.declared.stmt.Stmt.{Stmt}
use Rattle.ix_tree.specs.declared.stmt.StmtKind as StmtKind
use Rattle.ix_tree.specs.Trees.{s_block, StmtRow, row_more}
use Rattle.ix_tree.specs.Productions.{row}
use Rattle.ix_tree.specs.View.{view_stmt}
use Rattle.ix_tree.specs.Rows.{view_whole, view_items}
use Rattle.ix_tree.proofs.Views.{block_view}

row_items : (ss : List Stmt) → view_items ss ≡ row (map view_whole ss)
row_items [] = refl
row_items (s ∷ ss) = ap (λ (r : StmtRow). row_more (view_whole s) r) (row_items ss)

-- a block is that of its statements' trees
pub block_rows : (s : Span) (ss : List Stmt) → view_stmt s (StmtKind.Block ss) ≡ s_block s (row (map view_whole ss))
block_rows s ss = block_view s ss ∙ ap (s_block s) (row_items ss)

pub map_push : {A B : Type 0} (f : A → B) (xs : List A) (x : A) → map f (xs ++ x ∷ []) ≡ map f xs ++ f x ∷ []
map_push f xs x = map-append f xs (x ∷ [])
