-- Typed statements, one case a form, with the state behind each (the rules are this project's choice).
use Rattle.std.specs.Prelude.{◌≡◌, List, [], ◌∷◌, Option, Some, None, Bool, true}
use Rattle.ix_bits.specs.declared.number.Ty.{Ty}
use Rattle.ix_tree.specs.TypedTrees.{TypedExprTree, TypedDeclTree, TypedStmtTree, ts_block, ts_empty, ts_locals, ts_assign, ts_if, ts_if_else, ts_spawn, TypedRow, typed_end, typed_more, type_of, erased_stmt}
use Rattle.ix_typing.specs.declared.state.Setting.{Setting}
use Rattle.ix_typing.specs.declared.state.State.{State}
use Rattle.ix_typing.specs.Names.{role_of}
use Rattle.ix_typing.specs.Expressions.{embeds}
use Rattle.ix_typing.specs.Statements.{with_accessed, with_local, with_spawn, scope_end, other_path, both_paths, below_if, below_spawn, may_spawn}
use Rattle.ix_typed.specs.Expressions.{IsWritten, IsExpr}
use Rattle.ix_typed.specs.Assignments.{IsAssign}

-- a local may have a value that goes into its type
abbrev pub IsInitial : Setting → Ty → State → Option TypedExprTree → State → Type 0
IsInitial g ty st None after = after ≡ st
IsInitial g ty st (Some e) after = (c : Bool) × IsExpr g st st.accessed e c × (embeds (type_of e) ty ≡ true) × (after ≡ with_accessed st c)

-- a local has a name that is not visible yet; behind its declaration it is
abbrev pub IsDecl : Setting → Ty → State → TypedDeclTree → State → Type 0
IsDecl g ty st d after = (role_of st.names d.name ≡ None) × ((mid : State) × IsInitial g ty st d.value mid × (after ≡ with_local mid d.name ty))

abbrev pub AreDecls : Setting → Ty → State → List TypedDeclTree → State → Type 0
AreDecls g ty st [] after = after ≡ st
AreDecls g ty st (d ∷ ds) after = (mid : State) × IsDecl g ty st d mid × AreDecls g ty mid ds after

abbrev mutual
  -- the statement is typed, and the state behind it
  pub IsStmt : Setting → State → TypedStmtTree → State → Type 0
  IsStmt g st (ts_block s all) after = (mid : State) × IsRow g st all mid × (after ≡ scope_end st mid)
  IsStmt g st (ts_empty s) after = after ≡ st
  IsStmt g st (ts_locals s text ds) after = (ty : Ty) × IsWritten text.kind ty × AreDecls g ty st ds after
  IsStmt g st (ts_assign s a) after = IsAssign g st a after
  IsStmt g st (ts_if s c x) after =
      (b : Bool) × (mid : State) × IsExpr g st st.accessed c b × IsStmt (below_if g) (with_accessed st b) x mid × (after ≡ scope_end (with_accessed st b) mid)
  IsStmt g st (ts_if_else s c x y) after =
      (b : Bool) × (first : State) × (last : State) × IsExpr g st st.accessed c b × IsStmt (below_if g) (with_accessed st b) x first
      × IsStmt (below_if g) (other_path (with_accessed st b) (scope_end (with_accessed st b) first)) y last
      × (after ≡ both_paths (with_accessed st b) (scope_end (with_accessed st b) first)
      (scope_end (other_path (with_accessed st b) (scope_end (with_accessed st b) first)) last))
  IsStmt g st (ts_spawn s x) after =
      (may_spawn g st (erased_stmt x) ≡ true) × ((mid : State) × IsStmt (below_spawn g) (with_spawn st) x mid × (after ≡ scope_end (with_spawn st) mid))

  pub IsRow : Setting → State → TypedRow → State → Type 0
  IsRow g st typed_end after = after ≡ st
  IsRow g st (typed_more x rest) after = (mid : State) × IsStmt g st x mid × IsRow g mid rest after
