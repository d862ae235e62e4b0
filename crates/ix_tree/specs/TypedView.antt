-- The typed trees of the code without where they lie in memory.
use Rattle.std.specs.Prelude.{List, [], ◌∷◌, Option, Some, None, map}
use Rattle.ix_bits.specs.declared.number.Ty.{Ty}
use Rattle.ix_tree.specs.declared.token.Span.{Span}
use Rattle.ix_tree.specs.declared.typed.TypedExpr.{TypedExpr}
use Rattle.ix_tree.specs.declared.typed.TypedExprKind as E
use Rattle.ix_tree.specs.declared.typed.TypedExprKind.{TypedExprKind}
use Rattle.ix_tree.specs.declared.typed.TypedLvalue.{TypedLvalue}
use Rattle.ix_tree.specs.declared.typed.TypedLvalueKind.{TypedLvalueKind}
use Rattle.ix_tree.specs.declared.typed.TypedLvalueKind.TheVariants as L
use Rattle.ix_tree.specs.declared.typed.TypedAssign.{TypedAssign}
use Rattle.ix_tree.specs.declared.typed.TypedDecl.{TypedDecl}
use Rattle.ix_tree.specs.declared.typed.TypedStmt.{TypedStmt}
use Rattle.ix_tree.specs.declared.typed.TypedStmtKind as S
use Rattle.ix_tree.specs.declared.typed.TypedStmtKind.{TypedStmtKind}
use Rattle.ix_tree.specs.declared.typed.TypedState.{TypedState}
use Rattle.ix_tree.specs.declared.typed.TypedStateKind.{TypedStateKind}
use Rattle.ix_tree.specs.declared.typed.TypedStateKind.TheVariants as K
use Rattle.ix_tree.specs.declared.typed.TypedInstr.{TypedInstr}
use Rattle.ix_tree.specs.declared.typed.TypedBlockText.{TypedBlockText}
use Rattle.ix_tree.specs.declared.typed.TypedSection.{TypedSection}
use Rattle.ix_tree.specs.declared.typed.TypedSectionKind.{TypedSectionKind}
use Rattle.ix_tree.specs.declared.typed.TypedSectionKind.TheVariants as C
use Rattle.ix_tree.specs.declared.typed.Typed.{Typed}
use Rattle.ix_tree.specs.TypedTrees.{TypedExprTree, t_literal, t_name, t_pc, t_x, t_mem, t_index, t_range, t_unary, t_cast, t_binary, t_choose, TypedLvalueTree, tl_name, tl_pc, tl_x, tl_mem, TypedPlace, TypedAssignTree, TypedDeclTree, TypedStmtTree, ts_block, ts_empty, ts_locals, ts_assign, ts_if, ts_if_else, ts_spawn, TypedRow, typed_end, typed_more, TypedStateTree, TypedStateKindTree, tk_register, tk_table, TypedInstrTree, TypedBlockTree, TypedSectionTree, TypedSectionKindTree, tk_states, tk_instructions, tk_always, TypedTextTree}

abbrev pub typed_kind : Span → Ty → TypedExprKind → TypedExprTree
typed_kind s ty (E.Literal a b) = t_literal s ty a b
typed_kind s ty (E.Name n) = t_name s ty n
typed_kind s ty E.Pc = t_pc s ty
typed_kind s ty E.X = t_x s ty
typed_kind s ty E.Mem = t_mem s ty
typed_kind s ty (E.Index' p a u x q b v y) = t_index s ty (typed_kind a u x) (typed_kind b v y)
typed_kind s ty (E.Range' p a u x q b v y r c w z) = t_range s ty (typed_kind a u x) (typed_kind b v y) (typed_kind c w z)
typed_kind s ty (E.Unary' op p a u x) = t_unary s ty op (typed_kind a u x)
typed_kind s ty (E.Cast' to p a u x) = t_cast s ty to (typed_kind a u x)
typed_kind s ty (E.Binary' op p a u x q b v y) = t_binary s ty op (typed_kind a u x) (typed_kind b v y)
typed_kind s ty (E.Choose' p a u x q b v y r c w z) = t_choose s ty (typed_kind a u x) (typed_kind b v y) (typed_kind c w z)

abbrev pub typed_view : TypedExpr → TypedExprTree
typed_view e = typed_kind e.span e.ty e.kind

abbrev pub typed_option : Option TypedExpr → Option TypedExprTree
typed_option None = None
typed_option (Some e) = Some (typed_view e)

abbrev pub typed_lvalue : TypedLvalueKind → TypedLvalueTree
typed_lvalue (L.Name n) = tl_name n
typed_lvalue L.Pc = tl_pc
typed_lvalue (L.X e) = tl_x (typed_view e)
typed_lvalue (L.Mem e f) = tl_mem (typed_view e) (typed_option f)

abbrev pub typed_place : TypedLvalue → TypedPlace
typed_place l = record { span = l.span; tree = typed_lvalue l.kind }

abbrev pub typed_assign : TypedAssign → TypedAssignTree
typed_assign a = record { span = a.span; target = typed_place a.target; op = a.op; value = typed_view a.value }

abbrev pub typed_decl : TypedDecl → TypedDeclTree
typed_decl d = record { span = d.span; name = d.name; value = typed_option d.value }

abbrev mutual
  pub typed_stmt : Span → TypedStmtKind → TypedStmtTree
  typed_stmt s (S.Block' shape all) = ts_block s (typed_row all)
  typed_stmt s S.Empty = ts_empty s
  typed_stmt s (S.Locals ty ds) = ts_locals s ty (map typed_decl ds)
  typed_stmt s (S.Assign a) = ts_assign s (typed_assign a)
  typed_stmt s (S.If' c p a x o) = typed_if s (typed_view c) (typed_stmt a x) o
  typed_stmt s (S.Spawn' p a x) = ts_spawn s (typed_stmt a x)

  pub typed_if : Span → TypedExprTree → TypedStmtTree → S.Held-TypedStmtKind-If-2 → TypedStmtTree
  typed_if s c x S.None' = ts_if s c x
  typed_if s c x (S.Some' p a y) = ts_if_else s c x (typed_stmt a y)

  pub typed_row : {m : _} → S.Row_of-TypedStmt m → TypedRow
  typed_row S.end_of-TypedStmt = typed_end
  typed_row (S.more_of-TypedStmt a x rest) = typed_more (typed_stmt a x) (typed_row rest)

abbrev pub typed_whole : TypedStmt → TypedStmtTree
typed_whole x = typed_stmt x.span x.kind

-- the statements of a list, as those of a block
abbrev pub typed_items : List TypedStmt → TypedRow
typed_items [] = typed_end
typed_items (x ∷ xs) = typed_more (typed_whole x) (typed_items xs)

abbrev pub typed_state_kind : TypedStateKind → TypedStateKindTree
typed_state_kind (K.Register e) = tk_register (typed_option e)
typed_state_kind (K.Table n es) = tk_table n (map typed_view es)

abbrev pub typed_state : TypedState → TypedStateTree
typed_state s = record { span = s.span; name = s.name; ty = s.ty; kind = typed_state_kind s.kind }

abbrev pub typed_instr : TypedInstr → TypedInstrTree
typed_instr i = record { span = i.span; name = i.name; pieces = i.pieces; body = typed_whole i.body }

abbrev pub typed_block : TypedBlockText → TypedBlockTree
typed_block b = record { span = b.span; name = b.name; body = typed_whole b.body }

abbrev pub typed_section_kind : TypedSectionKind → TypedSectionKindTree
typed_section_kind (C.States xs) = tk_states (map typed_state xs)
typed_section_kind (C.Instructions xs) = tk_instructions (map typed_instr xs)
typed_section_kind (C.Always xs) = tk_always (map typed_block xs)

abbrev pub typed_section : TypedSection → TypedSectionTree
typed_section s = record { span = s.span; kind = typed_section_kind s.kind }

abbrev pub typed_tree : Typed → TypedTextTree
typed_tree t = record { span = t.span; name = t.name; sections = map typed_section t.sections }
