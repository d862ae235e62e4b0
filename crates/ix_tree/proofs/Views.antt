-- The views of lists of statements.
use Rattle.std.proofs.Common.{◌≡◌, ℕ, ◌+◌, ◌<◌, List, [], ◌∷◌, ◌++◌, length, get_or, drop, refl, ap, rules, drop-cons, add-one, ◌∙◌}
use Rattle.ix_tree.specs.declared.stmt.Stmt.{Stmt}
use Rattle.ix_tree.specs.declared.token.Span.{Span}
use Rattle.ix_tree.specs.declared.stmt.StmtKind as StmtKind
use Rattle.ix_tree.specs.declared.stmt.StmtKind.TheViews.{the_lemmas}
use Rattle.ix_tree.specs.declared.stmt.StmtKind.{Row_of-Stmt, end_of-Stmt, more_of-Stmt, items-the_row-Stmt}
use Rattle.ix_tree.specs.Trees.{s_block, StmtRow, row_end, row_more}
use Rattle.ix_tree.specs.View.{view_stmt, view_row}
use Rattle.ix_tree.specs.Rows.{view_whole, view_items}
use Rattle.ix_tree.specs.Unrolling.{row_join}

-- the row that a block holds is the view of its list
pub row_views : (n : _) (k : Row_of-Stmt n) → view_row k ≡ view_items (items-the_row-Stmt n k)
row_views n end_of-Stmt = refl
row_views n (more_of-Stmt {n = m} s x rest) = ap (λ (r : StmtRow). row_more (view_stmt s x) r) (row_views m rest)

pub items_join : (xs ys : List Stmt) → view_items (xs ++ ys) ≡ row_join (view_items xs) (view_items ys)
items_join [] ys = refl
items_join (x ∷ xs) ys = ap (λ (r : StmtRow). row_more (view_whole x) r) (items_join xs ys)

-- what is left from a statement on
pub items_rest : (xs : List Stmt) (k : ℕ) (x : Stmt) → k < length xs → x ≡ get_or xs k x → view_items (drop k xs) ≡ row_more (view_whole x) (view_items (drop (k + 1) xs))
items_rest xs k x h e = rw (add-one, drop-cons xs k x, ← e) refl

pub row_join_end : (xs : StmtRow) → row_join xs row_end ≡ xs
row_join_end row_end = refl
row_join_end (row_more x xs) = ap (λ (r : StmtRow). row_more x r) (row_join_end xs)

pub row_join_assoc : (xs ys zs : StmtRow) → row_join (row_join xs ys) zs ≡ row_join xs (row_join ys zs)
row_join_assoc row_end ys zs = refl
row_join_assoc (row_more x xs) ys zs = ap (λ (r : StmtRow). row_more x r) (row_join_assoc xs ys zs)

pub block_view : (s : Span) (all : List Stmt) → view_stmt s (StmtKind.Block all) ≡ s_block s (view_items all)
block_view s all = search (rules, the_lemmas, row_views)

pub block_whole : (x : Stmt) (all : List Stmt) → x.kind ≡ StmtKind.Block all → view_whole x ≡ s_block x.span (view_items all)
block_whole x all e = ap (view_stmt x.span) e ∙ block_view x.span all
