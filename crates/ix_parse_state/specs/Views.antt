-- The states of the code as those of the grammar's machine.
use Rattle.std.specs.Prelude.{List, [], ◌∷◌, map}
use Rattle.ix_tree.specs.declared.stmt.Stmt.{Stmt}
use Rattle.ix_tree.specs.Tokens.{extends_word, rv32i_word, encoding_word, behavior_word, open_brace, open_square, close_square, semicolon, colon, equals}
use Rattle.ix_tree.specs.View.{view, view_place, view_assign, view_decl, view_state, view_instr, view_block, view_section, view_tree}
use Rattle.ix_tree.specs.Rows.{view_whole}
use Rattle.ix_tree.specs.Productions.{Done}
use Rattle.ix_tree.specs.Machine as M
use Rattle.ix_tree.specs.Machine.{Stack, State}
use Rattle.ix_parse_state.specs.Parts.{part_of}
use Rattle.ix_parse_state.specs.declared.frame.Open.{Open}
use Rattle.ix_parse_state.specs.declared.frame.OpenInstr.{OpenInstr}
use Rattle.ix_parse_state.specs.declared.frame.OpenState.{OpenState}
use Rattle.ix_parse_state.specs.declared.frame.NamedState.{NamedState}
use Rattle.ix_parse_state.specs.declared.frame.OpenAlways.{OpenAlways}
use Rattle.ix_parse_state.specs.declared.frame.Frame.{Frame}
use Rattle.ix_parse_state.specs.declared.frame.Frame.TheVariants as F
use Rattle.ix_parse_state.specs.declared.frame.OperatorFrame.{OperatorFrame}
use Rattle.ix_parse_state.specs.declared.frame.OperatorFrame.TheVariants as O
use Rattle.ix_parse_state.specs.declared.frame.ClosingFrame.{ClosingFrame}
use Rattle.ix_parse_state.specs.declared.frame.ClosingFrame.TheVariants as C
use Rattle.ix_parse_state.specs.declared.frame.AssignFrame.{AssignFrame}
use Rattle.ix_parse_state.specs.declared.frame.AssignFrame.TheVariants as L
use Rattle.ix_parse_state.specs.declared.frame.TypeFrame.{TypeFrame}
use Rattle.ix_parse_state.specs.declared.frame.TypeFrame.TheVariants as Y
use Rattle.ix_parse_state.specs.declared.frame.DeclFrame.{DeclFrame}
use Rattle.ix_parse_state.specs.declared.frame.DeclFrame.TheVariants as D
use Rattle.ix_parse_state.specs.declared.frame.StmtFrame.{StmtFrame}
use Rattle.ix_parse_state.specs.declared.frame.StmtFrame.TheVariants as R
use Rattle.ix_parse_state.specs.declared.frame.BodyFrame.{BodyFrame}
use Rattle.ix_parse_state.specs.declared.frame.BodyFrame.TheVariants as B
use Rattle.ix_parse_state.specs.declared.state.ExprGoal.{ExprGoal}
use Rattle.ix_parse_state.specs.declared.state.ExprGoal.TheVariants as E
use Rattle.ix_parse_state.specs.declared.state.TypeGoal.{TypeGoal}
use Rattle.ix_parse_state.specs.declared.state.TypeGoal.TheVariants as T
use Rattle.ix_parse_state.specs.declared.state.AssignGoal.{AssignGoal}
use Rattle.ix_parse_state.specs.declared.state.AssignGoal.TheVariants as A
use Rattle.ix_parse_state.specs.declared.state.StmtGoal.{StmtGoal}
use Rattle.ix_parse_state.specs.declared.state.StmtGoal.TheVariants as S
use Rattle.ix_parse_state.specs.declared.state.Goal.{Goal}
use Rattle.ix_parse_state.specs.declared.state.Goal.TheVariants as G
use Rattle.ix_parse_state.specs.declared.state.TextGoal.{TextGoal}
use Rattle.ix_parse_state.specs.declared.state.TextGoal.TheVariants as X
use Rattle.ix_parse_state.specs.declared.state.InstrGoal.{InstrGoal}
use Rattle.ix_parse_state.specs.declared.state.InstrGoal.TheVariants as I
use Rattle.ix_parse_state.specs.declared.state.Place.{Place}
use Rattle.ix_parse_state.specs.declared.state.Place.TheVariants as P
use Rattle.ix_parse_state.specs.declared.state.Fixed.{Fixed}
use Rattle.ix_parse_state.specs.declared.state.Fixed.TheVariants as K
use Rattle.ix_parse_state.specs.declared.state.Reader.{Reader}

-- ---- what is open
abbrev pub done_of : Stmt → Done
done_of s = record { from = s.span.from; to = s.span.to; stmt = view_whole s }

abbrev pub open_of : Open → M.Open
open_of o = record { first = o.first; name = o.name; sections = map view_section o.sections; word = o.word }

abbrev pub instr_of : OpenInstr → M.OpenInstr
instr_of i = record { within = open_of i.within; before = map view_instr i.before; first = i.first; name = i.name; pieces = i.pieces }

abbrev pub state_of : OpenState → M.OpenState
state_of r = record { within = open_of r.within; before = map view_state r.before; first = r.first }

abbrev pub named_of : NamedState → M.NamedState
named_of r = record { state = state_of r.state; ty = r.ty; name = r.name }

abbrev pub always_of : OpenAlways → M.OpenAlways
always_of a = record { within = open_of a.within; before = map view_block a.before; first = a.first; name = a.name }

abbrev pub operator_frame : OperatorFrame → M.Frame
operator_frame (O.Unary d t op) = M.f_unary d t op
operator_frame (O.Cast d t to) = M.f_cast d t to
operator_frame (O.Binary x) = M.f_binary x.depth (part_of x.left) x.token
operator_frame (O.Else d c x) = M.f_else d (part_of c) (part_of x)

abbrev pub closing_frame : ClosingFrame → M.Frame
closing_frame (C.Round d t) = M.f_round d t
closing_frame (C.Index x) = M.f_index x.depth (part_of x.left)
closing_frame (C.Range x y) = M.f_range x.depth (part_of x.left) (part_of y)
closing_frame (C.Then d c) = M.f_then d (part_of c)
closing_frame (C.X d t) = M.f_x d t
closing_frame (C.Mem d t) = M.f_mem d t
closing_frame (C.MemRange d t x) = M.f_mem_range d t (part_of x)
closing_frame (C.Set d l op) = M.f_set d (view_place l) op
closing_frame (C.Value t n) = M.f_value t n
closing_frame (C.If d t) = M.f_if d t
closing_frame (C.Start l) = M.f_start l.depth l.first l.ty l.name
closing_frame (C.Test l x) = M.f_test l.depth l.first l.ty l.name (part_of x)
closing_frame (C.Entries r w xs) = M.f_entries (named_of r) w (map view xs)

abbrev pub assign_frame : AssignFrame → M.Frame
assign_frame (L.Step t op) = M.f_step t op
assign_frame (L.Single d) = M.f_single d
assign_frame (L.Last l x y) = M.f_last l.depth l.first l.ty l.name (part_of x) (part_of y)

abbrev pub type_frame : TypeFrame → M.Frame
type_frame (Y.Cast d t) = M.f_type_cast d t
type_frame (Y.Locals d) = M.f_type_locals d
type_frame (Y.Loop d t) = M.f_type_loop d t
type_frame (Y.Register r) = M.f_type_register (state_of r)
type_frame (Y.Table r) = M.f_type_table (state_of r)

abbrev pub decl_frame : DeclFrame → M.Frame
decl_frame (D.Locals d y xs) = M.f_locals d y (map view_decl xs)
decl_frame (D.Register r) = M.f_register (named_of r)

abbrev pub stmt_frame : StmtFrame → M.Frame
stmt_frame (R.Branch d t c) = M.f_branch d t (part_of c)
stmt_frame (R.Other d t c s) = M.f_other d t (part_of c) (done_of s)
stmt_frame (R.Loop l x y a) = M.f_loop l.depth l.first l.ty l.name (part_of x) (part_of y) (view_assign a)
stmt_frame (R.Spawn d t) = M.f_spawn d t

abbrev pub body_frame : BodyFrame → M.Frame
body_frame (B.Block d t ss) = M.f_block d t (map view_whole ss)
body_frame (B.Behavior i) = M.f_behavior (instr_of i)
body_frame (B.Always a) = M.f_always (always_of a)

abbrev pub frame_of : Frame → M.Frame
frame_of (F.Operator f) = operator_frame f
frame_of (F.Closing f) = closing_frame f
frame_of (F.Assign f) = assign_frame f
frame_of (F.Type f) = type_frame f
frame_of (F.Decl f) = decl_frame f
frame_of (F.Stmt f) = stmt_frame f
frame_of (F.Body f) = body_frame f

-- the last frame of the code is the innermost
abbrev pub stack_on : Stack → List Frame → Stack
stack_on k [] = k
stack_on k (f ∷ fs) = stack_on (frame_of f ∷ k) fs

unfoldable pub stack_of : List Frame → Stack
stack_of fs = stack_on [] fs

-- ---- what is wanted
abbrev pub of_expr : ExprGoal → Stack → State
of_expr (E.Want d) k = M.want d k
of_expr (E.Have d v) k = M.have d (part_of v) k
of_expr (E.Opened d o) k = M.opened d o k
of_expr (E.CastWord d o s b) k = M.cast_word d o s b k

abbrev pub of_type : TypeGoal → Stack → State
of_type (T.Typing d) k = M.typing d k
of_type (T.Less d s b) k = M.type_less d s b k
of_type (T.Width d s b) k = M.type_width d s b k
of_type (T.Greater d s b w) k = M.type_greater d s b w k
of_type (T.Typed y) k = M.typed y k

abbrev pub of_assign : AssignGoal → Stack → State
of_assign (A.Assigning d) k = M.assigning d k
of_assign (A.Placing d) k = M.placing d k
of_assign (A.XSquare d t) k = M.x_square d t k
of_assign (A.MemSquare d t) k = M.mem_square d t k
of_assign (A.Placed l) k = M.placed (view_place l) k
of_assign (A.Assigned a) k = M.assigned (view_assign a) k

abbrev pub of_stmt : StmtGoal → Stack → State
of_stmt (S.Stmt d) k = M.stmt d k
of_stmt (S.Item d o ss) k = M.item d o (map view_whole ss) k
of_stmt (S.Done s) k = M.done (done_of s) k
of_stmt (S.Naming d y xs) k = M.naming d y (map view_decl xs) k
of_stmt (S.Named d t n) k = M.named d t n k
of_stmt (S.IfRound d t) k = M.if_round d t k
of_stmt (S.ForRound d t) k = M.for_round d t k
of_stmt (S.ForHead d t) k = M.for_head d t k
of_stmt (S.ForEquals l) k = M.for_equals l.depth l.first l.ty l.name k

abbrev pub of_goal : Goal → Stack → State
of_goal (G.Expr g) k = of_expr g k
of_goal (G.Type g) k = of_type g k
of_goal (G.Assign g) k = of_assign g k
of_goal (G.Stmt g) k = of_stmt g k

abbrev pub of_text : TextGoal → State
of_text X.Starting = M.starting
of_text (X.SetName f) = M.set_name f
of_text (X.Sections f n xs) = M.sections f n (map view_section xs)
of_text (X.Ended x) = M.ended (view_tree x)
of_text (X.States o xs) = M.states (open_of o) (map view_state xs)
of_text (X.Instructions o xs) = M.instructions (open_of o) (map view_instr xs)
of_text (X.Blocks o xs) = M.blocks (open_of o) (map view_block xs)
of_text (X.AlwaysBrace o xs f n) = M.always_brace (open_of o) (map view_block xs) f n
of_text (X.StateWord r) = M.state_word (state_of r)
of_text (X.TableLength r) = M.table_length (named_of r)
of_text (X.TableEnd r w xs) = M.table_end (named_of r) w (map view xs)

abbrev pub of_instr : InstrGoal → M.OpenInstr → State
of_instr I.Piece i = M.piece i
of_instr (I.PieceSquare f n) i = M.piece_square i f n
of_instr (I.PieceHigh f n) i = M.piece_high i f n
of_instr (I.PieceColon f n hi) i = M.piece_colon i f n hi
of_instr (I.PieceLow f n hi) i = M.piece_low i f n hi
of_instr (I.PieceEnd f n hi lo) i = M.piece_end i f n hi lo
of_instr I.PieceNext i = M.piece_next i
of_instr I.AfterPieces i = M.after_pieces i
of_instr I.AssemblyText i = M.assembly_text i
of_instr I.AssemblyMore i = M.assembly_more i
of_instr I.AssemblyNext i = M.assembly_next i

unfoldable pub of_place : Place → State
of_place (P.Inside g fs) = of_goal g (stack_of fs.items)
of_place (P.Instr g i) = of_instr g (instr_of i)
of_place (P.Text g) = of_text g

-- the fixed tokens before a state
abbrev pub of_fixed : Fixed → State → State
of_fixed K.None z = z
of_fixed K.Extends z = M.fixed 0 extends_word (rv32i_word ∷ open_brace ∷ []) z
of_fixed K.Rv32i z = M.fixed 0 rv32i_word (open_brace ∷ []) z
of_fixed K.Brace z = M.fixed 0 open_brace [] z
of_fixed K.BraceEncoding z = M.fixed 0 open_brace (encoding_word ∷ colon ∷ []) z
of_fixed K.Encoding z = M.fixed 0 encoding_word (colon ∷ []) z
of_fixed K.Colon z = M.fixed 0 colon [] z
of_fixed K.SemicolonBehavior z = M.fixed 0 semicolon (behavior_word ∷ colon ∷ []) z
of_fixed K.Behavior z = M.fixed 0 behavior_word (colon ∷ []) z
of_fixed K.Square z = M.fixed 1 open_square [] z
of_fixed K.SquareEnd z = M.fixed 1 close_square [] (M.fixed 0 equals (open_brace ∷ []) z)
of_fixed K.Equals z = M.fixed 0 equals (open_brace ∷ []) z

unfoldable pub reader_of : Reader → State
reader_of r = of_fixed r.fixed (of_place r.place)
