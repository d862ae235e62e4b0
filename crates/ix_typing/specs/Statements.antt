-- Statements: which names are visible, what is written on a path, and the first rule that is broken (the rules and their order are this project's choice).
use Rattle.std.specs.Prelude.{ℕ, List, [], ◌∷◌, ◌++◌, length, take, drop, Option, Some, None, Bool, true, false, not, ◌&&◌, ◌||◌, if◌then◌else◌, Result, Ok}
use Rattle.ix_bits.specs.declared.number.Ty.{Ty}
use Rattle.ix_tree.specs.declared.token.Span.{Span}
use Rattle.ix_tree.specs.declared.expr.TypeText.{TypeText}
use Rattle.ix_tree.specs.Trees.{ExprTree, LvalueTree, l_name, l_pc, l_x, l_mem, DeclTree, StmtTree, s_block, s_empty, s_locals, s_assign, s_if, s_if_else, s_for, s_spawn, StmtRow, row_end, row_more}
use Rattle.ix_tree.specs.TypedTrees.{TypedExprTree, TypedAssignTree, TypedDeclTree, TypedStmtTree, ts_block, ts_empty, ts_locals, ts_assign, ts_if, ts_if_else, ts_spawn, TypedRow, typed_end, typed_more}
use Rattle.ix_typing.specs.declared.role.Role.{Role}
use Rattle.ix_typing.specs.declared.role.Role.TheVariants as R
use Rattle.ix_typing.specs.declared.role.Named.{Named}
use Rattle.ix_typing.specs.declared.state.Setting.{Setting}
use Rattle.ix_typing.specs.declared.state.State.{State}
use Rattle.ix_typing.specs.Names.{role_of}
use Rattle.ix_typing.specs.Refusals.{Refusal, unknown, twice, in_spawn, refuse, and_then, Step, each}
use Rattle.ix_typing.specs.Expressions.{Judged, judged, is_instruction, written}
use Rattle.ix_typing.specs.Assignments.{judged_assign, span_of, fits_into}

-- ---- states
abbrev pub with_accessed : State → Bool → State
with_accessed st a = record { names = st.names; written = st.written; accessed = a; spawned = st.spawned }

abbrev pub with_local : State → List ℕ → Ty → State
with_local st n ty = record { names = st.names ++ record { name = n; role = R.Local ty } ∷ []; written = st.written; accessed = st.accessed; spawned = st.spawned }

abbrev pub with_spawn : State → State
with_spawn st = record { names = st.names; written = st.written; accessed = st.accessed; spawned = true }

-- behind a scope the names of before it are visible
abbrev pub scope_end : State → State → State
scope_end before st = record { names = take (length before.names) st.names; written = st.written; accessed = st.accessed; spawned = st.spawned }

-- before the second branch of an `if`: what the first wrote is not written on this path
abbrev pub other_path : State → State → State
other_path before st = record { names = st.names; written = take (length before.written) st.written; accessed = st.accessed; spawned = st.spawned }

-- behind both branches: what either wrote is written on some path
abbrev pub both_paths : State → State → State → State
both_paths before first st =
    record { names = st.names; written = st.written ++ drop (length before.written) first.written; accessed = st.accessed; spawned = st.spawned }

abbrev pub below_if : Setting → Setting
below_if g = record { body = g.body; in_spawn = g.in_spawn; below_if = true }

abbrev pub below_spawn : Setting → Setting
below_spawn g = record { body = g.body; in_spawn = true; below_if = g.below_if }

-- ---- declarations
abbrev pub declared : Span → List ℕ → Ty → Option TypedExprTree → State → Step State TypedDeclTree
declared s n ty value st = record { item = record { span = s; name = n; value = value }; after = with_local st n ty }

abbrev pub initial : Span → List ℕ → Ty → Span → State → Result Judged Refusal → Result (Step State TypedDeclTree) Refusal
initial s n ty at st r = and_then r (λ v. and_then (fits_into at ty v.ty) (λ t. Ok (declared s n ty (Some v.tree) (with_accessed st v.accessed))))

abbrev pub valued : Setting → Ty → Span → List ℕ → Option ExprTree → State → Result (Step State TypedDeclTree) Refusal
valued g ty s n None st = Ok (declared s n ty None st)
valued g ty s n (Some e) st = initial s n ty (span_of e) st (judged g st e st.accessed)

abbrev pub unless_visible : Span → Option Role → Result (Step State TypedDeclTree) Refusal → Result (Step State TypedDeclTree) Refusal
unless_visible s None r = r
unless_visible s (Some role) r = refuse twice s

-- a declaration: Twice, then the value, then whether it goes into the type; behind it the local is visible
abbrev pub judged_decl : Setting → Ty → DeclTree → State → Result (Step State TypedDeclTree) Refusal
judged_decl g ty d st = unless_visible d.span (role_of st.names d.name) (valued g ty d.span d.name d.value st)

abbrev pub judged_decls : Setting → Ty → List DeclTree → State → Result (Step State (List TypedDeclTree)) Refusal
judged_decls g ty ds st = each (judged_decl g ty) ds st

-- ---- `spawn`
abbrev pub is_register : Option Role → Bool
is_register (Some (R.Register k ty)) = true
is_register _ = false

abbrev pub is_target : List Named → LvalueTree → Bool
is_target names (l_name n) = is_register (role_of names n)
is_target names l_pc = true
is_target names (l_x i) = true
is_target names (l_mem a b) = true

abbrev mutual
  -- a target is assigned in the statement
  pub writes_target : List Named → StmtTree → Bool
  writes_target names (s_block s all) = row_writes names all
  writes_target names (s_empty s) = false
  writes_target names (s_locals s ty ds) = false
  writes_target names (s_assign s a) = is_target names a.target.tree
  writes_target names (s_if s c x) = writes_target names x
  writes_target names (s_if_else s c x y) = writes_target names x || writes_target names y
  writes_target names (s_for s ty n start test last x) = false
  writes_target names (s_spawn s x) = writes_target names x

  pub row_writes : List Named → StmtRow → Bool
  row_writes names row_end = false
  row_writes names (row_more x rest) = writes_target names x || row_writes names rest

-- in an instruction, not in or behind a `spawn`, not below an `if`, and over something that writes a target
abbrev pub may_spawn : Setting → State → StmtTree → Bool
may_spawn g st x = is_instruction g.body && not g.in_spawn && not g.below_if && not st.spawned && writes_target st.names x

-- ---- statements of judged parts
abbrev pub in_scope : State → Result (Step State TypedStmtTree) Refusal → Result (Step State TypedStmtTree) Refusal
in_scope st r = and_then r (λ k. Ok (record { item = k.item; after = scope_end st k.after }))

abbrev pub block : Span → State → Result (Step State TypedRow) Refusal → Result (Step State TypedStmtTree) Refusal
block s st r = and_then r (λ k. Ok (record { item = ts_block s k.item; after = scope_end st k.after }))

abbrev pub locals : Span → TypeText → Result (Step State (List TypedDeclTree)) Refusal → Result (Step State TypedStmtTree) Refusal
locals s text r = and_then r (λ k. Ok (record { item = ts_locals s text k.item; after = k.after }))

abbrev pub assign : Span → Result (Step State TypedAssignTree) Refusal → Result (Step State TypedStmtTree) Refusal
assign s r = and_then r (λ k. Ok (record { item = ts_assign s k.item; after = k.after }))

abbrev pub condition : Setting → ExprTree → State → Result (Step State TypedExprTree) Refusal
condition g c st = and_then (judged g st c st.accessed) (λ j. Ok (record { item = j.tree; after = with_accessed st j.accessed }))

abbrev pub choice : Span → TypedExprTree → Result (Step State TypedStmtTree) Refusal → Result (Step State TypedStmtTree) Refusal
choice s c r = and_then r (λ k. Ok (record { item = ts_if s c k.item; after = k.after }))

abbrev pub joined : State → State → Result (Step State TypedStmtTree) Refusal → Result (Step State TypedStmtTree) Refusal
joined before first r = and_then r (λ k. Ok (record { item = k.item; after = both_paths before first k.after }))

abbrev pub choice_else : Span → TypedExprTree → TypedStmtTree → Result (Step State TypedStmtTree) Refusal → Result (Step State TypedStmtTree) Refusal
choice_else s c x r = and_then r (λ k. Ok (record { item = ts_if_else s c x k.item; after = k.after }))

abbrev pub spawned : Span → Result (Step State TypedStmtTree) Refusal → Result (Step State TypedStmtTree) Refusal
spawned s r = and_then r (λ k. Ok (record { item = ts_spawn s k.item; after = k.after }))

abbrev mutual
  -- The statement with its types and the state behind it, or the first rule that it breaks. Loops are unrolled before.
  pub judged_stmt : StmtTree → Setting → State → Result (Step State TypedStmtTree) Refusal
  judged_stmt (s_block s all) g st = block s st (judged_row all g st)
  judged_stmt (s_empty s) g st = Ok (record { item = ts_empty s; after = st })
  judged_stmt (s_locals s text ds) g st = and_then (written text.span text.kind) (λ ty. locals s text (judged_decls g ty ds st))
  judged_stmt (s_assign s a) g st = assign s (judged_assign g a st)
  judged_stmt (s_if s c x) g st = and_then (condition g c st) (λ j. choice s j.item (in_scope j.after (judged_stmt x (below_if g) j.after)))
  judged_stmt (s_if_else s c x y) g st =
      and_then (condition g c st) (λ j.
      and_then (in_scope j.after (judged_stmt x (below_if g) j.after)) (λ k.
      choice_else s j.item k.item (joined j.after k.after (in_scope (other_path j.after k.after) (judged_stmt y (below_if g) (other_path j.after k.after))))))
  judged_stmt (s_for s ty n start test last x) g st = refuse unknown s
  judged_stmt (s_spawn s x) g st =
      if may_spawn g st x then spawned s (in_scope (with_spawn st) (judged_stmt x (below_spawn g) (with_spawn st)))
      else refuse in_spawn s

  pub judged_row : StmtRow → Setting → State → Result (Step State TypedRow) Refusal
  judged_row row_end g st = Ok (record { item = typed_end; after = st })
  judged_row (row_more x rest) g st =
      and_then (judged_stmt x g st) (λ k. and_then (judged_row rest g k.after) (λ m. Ok (record { item = typed_more k.item m.item; after = m.after })))
