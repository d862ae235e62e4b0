-- Typed trees without where they lie in memory: no loop is among them, and each expression has its type. `erased` takes the types away.
use Rattle.std.specs.Prelude.{ℕ, List, Option, Some, None, map}
use Rattle.ix_bits.specs.declared.number.Ty.{Ty}
use Rattle.ix_bits.specs.declared.number.Bits.{Bits}
use Rattle.ix_bits.specs.declared.operator.BinOp.{BinOp}
use Rattle.ix_bits.specs.declared.operator.UnOp.{UnOp}
use Rattle.ix_tree.specs.declared.token.Span.{Span}
use Rattle.ix_tree.specs.declared.expr.TypeText.{TypeText}
use Rattle.ix_tree.specs.declared.expr.CastTo.{CastTo}
use Rattle.ix_tree.specs.declared.section.PieceText.{PieceText}
use Rattle.ix_tree.specs.Trees.{ExprTree, e_literal, e_name, e_pc, e_x, e_mem, e_index, e_range, e_unary, e_cast, e_binary, e_choose, LvalueTree, l_name, l_pc, l_x, l_mem, Place, AssignTree, DeclTree, StmtTree, s_block, s_empty, s_locals, s_assign, s_if, s_if_else, s_spawn, StmtRow, row_end, row_more, StateTree, StateKindTree, k_register, k_table, InstrTree, BlockTree, SectionTree, SectionKindTree, k_states, k_instructions, k_always, TextTree}

-- ---- trees

-- an expression: its place, its type, and what it is
pub data TypedExprTree : Type 0 where
  t_literal : Span → Ty → Ty → Bits → TypedExprTree
  t_name : Span → Ty → List ℕ → TypedExprTree
  t_pc : Span → Ty → TypedExprTree
  t_x : Span → Ty → TypedExprTree
  t_mem : Span → Ty → TypedExprTree
  t_index : Span → Ty → TypedExprTree → TypedExprTree → TypedExprTree
  t_range : Span → Ty → TypedExprTree → TypedExprTree → TypedExprTree → TypedExprTree
  t_unary : Span → Ty → UnOp → TypedExprTree → TypedExprTree
  t_cast : Span → Ty → CastTo → TypedExprTree → TypedExprTree
  t_binary : Span → Ty → BinOp → TypedExprTree → TypedExprTree → TypedExprTree
  t_choose : Span → Ty → TypedExprTree → TypedExprTree → TypedExprTree → TypedExprTree

pub data TypedLvalueTree : Type 0 where
  tl_name : List ℕ → TypedLvalueTree
  tl_pc : TypedLvalueTree
  tl_x : TypedExprTree → TypedLvalueTree
  tl_mem : TypedExprTree → Option TypedExprTree → TypedLvalueTree

pub record TypedPlace : Type 0 where
  pub span : Span
  pub tree : TypedLvalueTree

pub record TypedAssignTree : Type 0 where
  pub span : Span
  pub target : TypedPlace
  pub op : Option BinOp
  pub value : TypedExprTree

pub record TypedDeclTree : Type 0 where
  pub span : Span
  pub name : List ℕ
  pub value : Option TypedExprTree

mutual
  pub data TypedStmtTree : Type 0 where
    ts_block : Span → TypedRow → TypedStmtTree
    ts_empty : Span → TypedStmtTree
    ts_locals : Span → TypeText → List TypedDeclTree → TypedStmtTree
    ts_assign : Span → TypedAssignTree → TypedStmtTree
    ts_if : Span → TypedExprTree → TypedStmtTree → TypedStmtTree
    ts_if_else : Span → TypedExprTree → TypedStmtTree → TypedStmtTree → TypedStmtTree
    ts_spawn : Span → TypedStmtTree → TypedStmtTree

  pub data TypedRow : Type 0 where
    typed_end : TypedRow
    typed_more : TypedStmtTree → TypedRow → TypedRow

pub data TypedStateKindTree : Type 0 where
  tk_register : Option TypedExprTree → TypedStateKindTree
  tk_table : ℕ → List TypedExprTree → TypedStateKindTree

pub record TypedStateTree : Type 0 where
  pub span : Span
  pub name : List ℕ
  pub ty : TypeText
  pub kind : TypedStateKindTree

pub record TypedInstrTree : Type 0 where
  pub span : Span
  pub name : List ℕ
  pub pieces : List PieceText
  pub body : TypedStmtTree

pub record TypedBlockTree : Type 0 where
  pub span : Span
  pub name : List ℕ
  pub body : TypedStmtTree

pub data TypedSectionKindTree : Type 0 where
  tk_states : List TypedStateTree → TypedSectionKindTree
  tk_instructions : List TypedInstrTree → TypedSectionKindTree
  tk_always : List TypedBlockTree → TypedSectionKindTree

pub record TypedSectionTree : Type 0 where
  pub span : Span
  pub kind : TypedSectionKindTree

pub record TypedTextTree : Type 0 where
  pub span : Span
  pub name : List ℕ
  pub sections : List TypedSectionTree

-- the type of an expression
abbrev pub type_of : TypedExprTree → Ty
type_of (t_literal s ty a b) = ty
type_of (t_name s ty n) = ty
type_of (t_pc s ty) = ty
type_of (t_x s ty) = ty
type_of (t_mem s ty) = ty
type_of (t_index s ty x y) = ty
type_of (t_range s ty x y z) = ty
type_of (t_unary s ty op x) = ty
type_of (t_cast s ty to x) = ty
type_of (t_binary s ty op x y) = ty
type_of (t_choose s ty c x y) = ty

-- the place of an expression
abbrev pub place_of : TypedExprTree → Span
place_of (t_literal s ty a b) = s
place_of (t_name s ty n) = s
place_of (t_pc s ty) = s
place_of (t_x s ty) = s
place_of (t_mem s ty) = s
place_of (t_index s ty x y) = s
place_of (t_range s ty x y z) = s
place_of (t_unary s ty op x) = s
place_of (t_cast s ty to x) = s
place_of (t_binary s ty op x y) = s
place_of (t_choose s ty c x y) = s

-- ---- the trees without their types
abbrev pub erased : TypedExprTree → ExprTree
erased (t_literal s ty a b) = e_literal s a b
erased (t_name s ty n) = e_name s n
erased (t_pc s ty) = e_pc s
erased (t_x s ty) = e_x s
erased (t_mem s ty) = e_mem s
erased (t_index s ty x y) = e_index s (erased x) (erased y)
erased (t_range s ty x y z) = e_range s (erased x) (erased y) (erased z)
erased (t_unary s ty op x) = e_unary s op (erased x)
erased (t_cast s ty to x) = e_cast s to (erased x)
erased (t_binary s ty op x y) = e_binary s op (erased x) (erased y)
erased (t_choose s ty c x y) = e_choose s (erased c) (erased x) (erased y)

abbrev pub erased_option : Option TypedExprTree → Option ExprTree
erased_option None = None
erased_option (Some x) = Some (erased x)

abbrev pub erased_lvalue : TypedLvalueTree → LvalueTree
erased_lvalue (tl_name n) = l_name n
erased_lvalue tl_pc = l_pc
erased_lvalue (tl_x e) = l_x (erased e)
erased_lvalue (tl_mem e f) = l_mem (erased e) (erased_option f)

abbrev pub erased_place : TypedPlace → Place
erased_place l = record { span = l.span; tree = erased_lvalue l.tree }

abbrev pub erased_assign : TypedAssignTree → AssignTree
erased_assign a = record { span = a.span; target = erased_place a.target; op = a.op; value = erased a.value }

abbrev pub erased_decl : TypedDeclTree → DeclTree
erased_decl d = record { span = d.span; name = d.name; value = erased_option d.value }

abbrev mutual
  pub erased_stmt : TypedStmtTree → StmtTree
  erased_stmt (ts_block s all) = s_block s (erased_row all)
  erased_stmt (ts_empty s) = s_empty s
  erased_stmt (ts_locals s ty ds) = s_locals s ty (map erased_decl ds)
  erased_stmt (ts_assign s a) = s_assign s (erased_assign a)
  erased_stmt (ts_if s c x) = s_if s (erased c) (erased_stmt x)
  erased_stmt (ts_if_else s c x y) = s_if_else s (erased c) (erased_stmt x) (erased_stmt y)
  erased_stmt (ts_spawn s x) = s_spawn s (erased_stmt x)

  pub erased_row : TypedRow → StmtRow
  erased_row typed_end = row_end
  erased_row (typed_more x rest) = row_more (erased_stmt x) (erased_row rest)

abbrev pub erased_state_kind : TypedStateKindTree → StateKindTree
erased_state_kind (tk_register e) = k_register (erased_option e)
erased_state_kind (tk_table n es) = k_table n (map erased es)

abbrev pub erased_state : TypedStateTree → StateTree
erased_state s = record { span = s.span; name = s.name; ty = s.ty; kind = erased_state_kind s.kind }

abbrev pub erased_instr : TypedInstrTree → InstrTree
erased_instr i = record { span = i.span; name = i.name; pieces = i.pieces; body = erased_stmt i.body }

abbrev pub erased_block : TypedBlockTree → BlockTree
erased_block b = record { span = b.span; name = b.name; body = erased_stmt b.body }

abbrev pub erased_section_kind : TypedSectionKindTree → SectionKindTree
erased_section_kind (tk_states xs) = k_states (map erased_state xs)
erased_section_kind (tk_instructions xs) = k_instructions (map erased_instr xs)
erased_section_kind (tk_always xs) = k_always (map erased_block xs)

abbrev pub erased_section : TypedSectionTree → SectionTree
erased_section s = record { span = s.span; kind = erased_section_kind s.kind }

abbrev pub erased_text : TypedTextTree → TextTree
erased_text t = record { span = t.span; name = t.name; sections = map erased_section t.sections }
