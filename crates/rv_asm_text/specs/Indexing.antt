-- The fields by which a behaviour indexes X (CoreDSL 2, architectural state; that these take registers is this project's choice).
use Rattle.std.specs.Prelude.{ℕ, List, [], ◌∷◌, Option, Some, None, Bool, true, false, ◌||◌, if◌then◌else◌}
use Rattle.ix_tree.specs.Lexing.{same_bytes}
use Rattle.ix_tree.specs.TypedTrees.{TypedExprTree, t_literal, t_name, t_pc, t_x, t_mem, t_index, t_range, t_unary, t_cast, t_binary, t_choose, TypedLvalueTree, tl_name, tl_pc, tl_x, tl_mem, TypedAssignTree, TypedDeclTree, TypedStmtTree, ts_block, ts_empty, ts_locals, ts_assign, ts_if, ts_if_else, ts_spawn, TypedRow, typed_end, typed_more}

abbrev pub is_x : TypedExprTree → Bool
is_x (t_literal s ty a b) = false
is_x (t_name s ty n) = false
is_x (t_pc s ty) = false
is_x (t_x s ty) = true
is_x (t_mem s ty) = false
is_x (t_index s ty x y) = false
is_x (t_range s ty x y z) = false
is_x (t_unary s ty op x) = false
is_x (t_cast s ty to x) = false
is_x (t_binary s ty op x y) = false
is_x (t_choose s ty c x y) = false

abbrev pub is_field : List ℕ → TypedExprTree → Bool
is_field field (t_literal s ty a b) = false
is_field field (t_name s ty n) = same_bytes n field
is_field field (t_pc s ty) = false
is_field field (t_x s ty) = false
is_field field (t_mem s ty) = false
is_field field (t_index s ty x y) = false
is_field field (t_range s ty x y z) = false
is_field field (t_unary s ty op x) = false
is_field field (t_cast s ty to x) = false
is_field field (t_binary s ty op x y) = false
is_field field (t_choose s ty c x y) = false

-- an expression has X[field] in it
abbrev pub expr_indexes : List ℕ → TypedExprTree → Bool
expr_indexes field (t_literal s ty a b) = false
expr_indexes field (t_name s ty n) = false
expr_indexes field (t_pc s ty) = false
expr_indexes field (t_x s ty) = false
expr_indexes field (t_mem s ty) = false
expr_indexes field (t_index s ty x y) = (if is_x x then is_field field y else false) || (expr_indexes field x || expr_indexes field y)
expr_indexes field (t_range s ty x y z) = expr_indexes field x || (expr_indexes field y || expr_indexes field z)
expr_indexes field (t_unary s ty op x) = expr_indexes field x
expr_indexes field (t_cast s ty to x) = expr_indexes field x
expr_indexes field (t_binary s ty op x y) = expr_indexes field x || expr_indexes field y
expr_indexes field (t_choose s ty c x y) = expr_indexes field c || (expr_indexes field x || expr_indexes field y)

abbrev pub option_indexes : List ℕ → Option TypedExprTree → Bool
option_indexes field None = false
option_indexes field (Some e) = expr_indexes field e

abbrev pub place_indexes : List ℕ → TypedLvalueTree → Bool
place_indexes field (tl_name n) = false
place_indexes field tl_pc = false
place_indexes field (tl_x e) = is_field field e || expr_indexes field e
place_indexes field (tl_mem e f) = expr_indexes field e || option_indexes field f

abbrev pub assign_indexes : List ℕ → TypedAssignTree → Bool
assign_indexes field a = place_indexes field a.target.tree || expr_indexes field a.value

abbrev pub decls_index : List ℕ → List TypedDeclTree → Bool
decls_index field [] = false
decls_index field (d ∷ ds) = if option_indexes field d.value then true else decls_index field ds

-- a statement has X[field] in what it reads or writes
abbrev mutual
  pub stmt_indexes : List ℕ → TypedStmtTree → Bool
  stmt_indexes field (ts_block s all) = row_indexes field all
  stmt_indexes field (ts_empty s) = false
  stmt_indexes field (ts_locals s ty ds) = decls_index field ds
  stmt_indexes field (ts_assign s a) = assign_indexes field a
  stmt_indexes field (ts_if s c x) = expr_indexes field c || stmt_indexes field x
  stmt_indexes field (ts_if_else s c x y) = expr_indexes field c || (stmt_indexes field x || stmt_indexes field y)
  stmt_indexes field (ts_spawn s x) = stmt_indexes field x

  pub row_indexes : List ℕ → TypedRow → Bool
  row_indexes field typed_end = false
  row_indexes field (typed_more x rest) = stmt_indexes field x || row_indexes field rest

-- a behaviour has X[field] somewhere
abbrev pub body_indexes : List ℕ → List TypedStmtTree → Bool
body_indexes field [] = false
body_indexes field (x ∷ xs) = if stmt_indexes field x then true else body_indexes field xs
