-- The views of lists of typed statements.
use Rattle.std.proofs.Common.{◌≡◌, List, [], ◌∷◌, ◌++◌, refl, ap, rules}
use Rattle.ix_tree.specs.declared.token.Span.{Span}
use Rattle.ix_tree.specs.declared.typed.TypedStmt.{TypedStmt}
use Rattle.ix_tree.specs.declared.typed.TypedStmtKind as TypedStmtKind
use Rattle.ix_tree.specs.declared.typed.TypedStmtKind.TheViews.{the_lemmas}
use Rattle.ix_tree.specs.declared.typed.TypedStmtKind.{Row_of-TypedStmt, end_of-TypedStmt, more_of-TypedStmt, items-the_row-TypedStmt}
use Rattle.ix_tree.specs.TypedTrees.{TypedRow, ts_block, typed_end, typed_more}
use Rattle.ix_tree.specs.TypedView.{typed_stmt, typed_row, typed_whole, typed_items}

-- the row that a block holds is the view of its list
pub typed_row_views : (n : _) (k : Row_of-TypedStmt n) → typed_row k ≡ typed_items (items-the_row-TypedStmt n k)
typed_row_views n end_of-TypedStmt = refl
typed_row_views n (more_of-TypedStmt {n = m} s x rest) = ap (λ (r : TypedRow). typed_more (typed_stmt s x) r) (typed_row_views m rest)

pub typed_block_view : (s : Span) (all : List TypedStmt) → typed_stmt s (TypedStmtKind.Block all) ≡ ts_block s (typed_items all)
typed_block_view s all = search (rules, the_lemmas, typed_row_views)

-- one row behind another
abbrev pub typed_join : TypedRow → TypedRow → TypedRow
typed_join typed_end ys = ys
typed_join (typed_more x xs) ys = typed_more x (typed_join xs ys)

pub typed_items_join : (xs ys : List TypedStmt) → typed_items (xs ++ ys) ≡ typed_join (typed_items xs) (typed_items ys)
typed_items_join [] ys = refl
typed_items_join (x ∷ xs) ys = ap (λ (r : TypedRow). typed_more (typed_whole x) r) (typed_items_join xs ys)

pub typed_join_assoc : (xs ys zs : TypedRow) → typed_join (typed_join xs ys) zs ≡ typed_join xs (typed_join ys zs)
typed_join_assoc typed_end ys zs = refl
typed_join_assoc (typed_more x xs) ys zs = ap (λ (r : TypedRow). typed_more x r) (typed_join_assoc xs ys zs)

pub typed_join_end : (xs : TypedRow) → typed_join xs typed_end ≡ xs
typed_join_end typed_end = refl
typed_join_end (typed_more x xs) = ap (λ (r : TypedRow). typed_more x r) (typed_join_end xs)
