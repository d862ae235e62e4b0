-- The trees of the code without where they lie in memory.
use Rattle.std.specs.Prelude.{List, Option, Some, None, map}
use Rattle.ix_tree.specs.declared.token.Span.{Span}
use Rattle.ix_tree.specs.declared.token.Token.{Token}
use Rattle.ix_tree.specs.declared.expr.Expr.{Expr}
use Rattle.ix_tree.specs.declared.expr.ExprKind as E
use Rattle.ix_tree.specs.declared.expr.ExprKind.{ExprKind}
use Rattle.ix_tree.specs.declared.stmt.Lvalue.{Lvalue}
use Rattle.ix_tree.specs.declared.stmt.LvalueKind.{LvalueKind}
use Rattle.ix_tree.specs.declared.stmt.LvalueKind.TheVariants as L
use Rattle.ix_tree.specs.declared.stmt.Assign.{Assign}
use Rattle.ix_tree.specs.declared.stmt.Decl.{Decl}
use Rattle.ix_tree.specs.declared.stmt.StmtKind as S
use Rattle.ix_tree.specs.declared.stmt.StmtKind.{StmtKind}
use Rattle.ix_tree.specs.declared.section.State.{State}
use Rattle.ix_tree.specs.declared.section.StateKind.{StateKind}
use Rattle.ix_tree.specs.declared.section.StateKind.TheVariants as K
use Rattle.ix_tree.specs.declared.section.Instr.{Instr}
use Rattle.ix_tree.specs.declared.section.BlockText.{BlockText}
use Rattle.ix_tree.specs.declared.section.Section.{Section}
use Rattle.ix_tree.specs.declared.section.SectionKind.{SectionKind}
use Rattle.ix_tree.specs.declared.section.SectionKind.TheVariants as C
use Rattle.ix_tree.specs.declared.section.Tree.{Tree}
use Rattle.ix_tree.specs.Trees.{ExprTree, e_literal, e_name, e_pc, e_x, e_mem, e_index, e_range, e_unary, e_cast, e_binary, e_choose, LvalueTree, l_name, l_pc, l_x, l_mem, Place, AssignTree, DeclTree, StmtTree, s_block, s_empty, s_locals, s_assign, s_if, s_if_else, s_for, s_spawn, StmtRow, row_end, row_more, StateTree, StateKindTree, k_register, k_table, InstrTree, BlockTree, SectionTree, SectionKindTree, k_states, k_instructions, k_always, TextTree}
use Rattle.ix_tree.specs.Grammar.{Derives}

abbrev pub view_kind : Span → ExprKind → ExprTree
view_kind s (E.Literal ty b) = e_literal s ty b
view_kind s (E.Name n) = e_name s n
view_kind s E.Pc = e_pc s
view_kind s E.X = e_x s
view_kind s E.Mem = e_mem s
view_kind s (E.Index' p a x q b y) = e_index s (view_kind a x) (view_kind b y)
view_kind s (E.Range' p a x q b y r c z) = e_range s (view_kind a x) (view_kind b y) (view_kind c z)
view_kind s (E.Unary' op p a x) = e_unary s op (view_kind a x)
view_kind s (E.Cast' to p a x) = e_cast s to (view_kind a x)
view_kind s (E.Binary' op p a x q b y) = e_binary s op (view_kind a x) (view_kind b y)
view_kind s (E.Choose' p a x q b y r c z) = e_choose s (view_kind a x) (view_kind b y) (view_kind c z)

abbrev pub view : Expr → ExprTree
view e = view_kind e.span e.kind

abbrev pub view_option : Option Expr → Option ExprTree
view_option None = None
view_option (Some e) = Some (view e)

abbrev pub view_lvalue : LvalueKind → LvalueTree
view_lvalue (L.Name n) = l_name n
view_lvalue L.Pc = l_pc
view_lvalue (L.X e) = l_x (view e)
view_lvalue (L.Mem e f) = l_mem (view e) (view_option f)

abbrev pub view_place : Lvalue → Place
view_place l = record { span = l.span; tree = view_lvalue l.kind }

abbrev pub view_assign : Assign → AssignTree
view_assign a = record { span = a.span; target = view_place a.target; op = a.op; value = view a.value }

abbrev pub view_decl : Decl → DeclTree
view_decl d = record { span = d.span; name = d.name; value = view_option d.value }

abbrev mutual
  pub view_stmt : Span → StmtKind → StmtTree
  view_stmt s (S.Block' shape all) = s_block s (view_row all)
  view_stmt s S.Empty = s_empty s
  view_stmt s (S.Locals ty ds) = s_locals s ty (map view_decl ds)
  view_stmt s (S.Assign a) = s_assign s (view_assign a)
  view_stmt s (S.If' c p a x o) = view_if s (view c) (view_stmt a x) o
  view_stmt s (S.For' p ty n start test last a x) = s_for s ty n (view start) (view test) (view_assign last) (view_stmt a x)
  view_stmt s (S.Spawn' p a x) = s_spawn s (view_stmt a x)

  pub view_if : Span → ExprTree → StmtTree → S.Held-StmtKind-If-2 → StmtTree
  view_if s c x S.None' = s_if s c x
  view_if s c x (S.Some' p a y) = s_if_else s c x (view_stmt a y)

  pub view_row : {m : _} → S.Row_of-Stmt m → StmtRow
  view_row S.end_of-Stmt = row_end
  view_row (S.more_of-Stmt a x rest) = row_more (view_stmt a x) (view_row rest)

abbrev pub view_state_kind : StateKind → StateKindTree
view_state_kind (K.Register e) = k_register (view_option e)
view_state_kind (K.Table n es) = k_table n (map view es)

abbrev pub view_state : State → StateTree
view_state s = record { span = s.span; name = s.name; ty = s.ty; kind = view_state_kind s.kind }

abbrev pub view_instr : Instr → InstrTree
view_instr i = record { span = i.span; name = i.name; pieces = i.pieces; body = view_stmt i.body.span i.body.kind }

abbrev pub view_block : BlockText → BlockTree
view_block b = record { span = b.span; name = b.name; body = view_stmt b.body.span b.body.kind }

abbrev pub view_section_kind : SectionKind → SectionKindTree
view_section_kind (C.States xs) = k_states (map view_state xs)
view_section_kind (C.Instructions xs) = k_instructions (map view_instr xs)
view_section_kind (C.Always xs) = k_always (map view_block xs)

abbrev pub view_section : Section → SectionTree
view_section s = record { span = s.span; kind = view_section_kind s.kind }

abbrev pub view_tree : Tree → TextTree
view_tree t = record { span = t.span; name = t.name; sections = map view_section t.sections }

-- all tokens derive the tree
abbrev pub DerivesTree : List Token → Tree → Type 0
DerivesTree tokens tree = Derives tokens (view_tree tree)
