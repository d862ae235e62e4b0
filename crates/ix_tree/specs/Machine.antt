-- The grammar as a plain program on tokens: what each token does to the open productions, and its nesting.
-- A state knows the nesting `d` at which it stands, and a frame that at which its production stands.
use Rattle.std.specs.Prelude.{ℕ, ◌+◌, List, [], ◌∷◌, ◌++◌, Bool, true, false, ◌||◌, if◌then◌else◌, nat_eq, nat_le, Option, Some, None}
use Rattle.ix_bits.specs.declared.operator.BinOp.{BinOp}
use Rattle.ix_bits.specs.declared.operator.BinOp.TheVariants as B
use Rattle.ix_bits.specs.declared.operator.UnOp.{UnOp}
use Rattle.ix_bits.specs.declared.operator.UnOp.TheVariants as U
use Rattle.ix_tree.specs.declared.token.Span.{Span}
use Rattle.ix_tree.specs.declared.token.Token.{Token}
use Rattle.ix_tree.specs.declared.token.TokenKind.{TokenKind}
use Rattle.ix_tree.specs.declared.token.TokenKind.TheVariants.{Name, Text, Unsized, Sized, Word, Symbol}
use Rattle.ix_tree.specs.declared.expr.TypeText.{TypeText}
use Rattle.ix_tree.specs.declared.expr.TypeKind.{TypeKind}
use Rattle.ix_tree.specs.declared.expr.TypeKind.TheVariants as T
use Rattle.ix_tree.specs.declared.expr.CastTo.{CastTo}
use Rattle.ix_tree.specs.declared.expr.CastTo.TheVariants as C
use Rattle.ix_tree.specs.declared.section.PieceText.{PieceText}
use Rattle.ix_tree.specs.Tokens.{instruction_set, extends_word, rv32i_word, architectural_state, instructions_word, always_word, register_word, const_word, encoding_word, assembly_word, behavior_word, signed_word, unsigned_word, int_word, bool_word, if_word, else_word, for_word, spawn_word, open_brace, close_brace, open_square, close_square, open_round, close_round, semicolon, comma, colon, double_colon, equals, plus_plus, minus_minus, less, greater, minus, tilde, bang}
use Rattle.ix_tree.specs.Trees.{ExprTree, e_literal, e_name, e_pc, e_x, e_mem, Place, AssignTree, DeclTree, StmtTree, StateTree, InstrTree, BlockTree, SectionTree, k_states, k_instructions, k_always, TextTree, power, before, Part, span, p_primary, p_unary, p_cast, p_binary, p_round, p_index, p_range, p_choose}
use Rattle.ix_tree.specs.Productions.{bit_type, one_bit, zero_bit, type_text, place_name, place_pc, place_x, place_mem, place_mem_range, assign_set, assign_before, assign_after, decl, Done, d_block, d_empty, d_locals, d_assign, d_if, d_if_else, d_for, d_spawn, fixed_piece, field_piece, register_tree, table_tree, instr_tree, section_tree, text_tree}

-- ---- what was read of an open section, state or instruction
-- the text so far: its first token, its name and its whole sections, and the word of the open section
pub record Open : Type 0 where
  pub first : Token
  pub name : List ℕ
  pub sections : List SectionTree
  pub word : Token

-- an open instruction: the instructions before it, its first token, its name and its pieces so far
pub record OpenInstr : Type 0 where
  pub within : Open
  pub before : List InstrTree
  pub first : Token
  pub name : List ℕ
  pub pieces : List PieceText

-- an open register or table: the states before it, its first token, its type and its name
pub record OpenState : Type 0 where
  pub within : Open
  pub before : List StateTree
  pub first : Token

pub record NamedState : Type 0 where
  pub state : OpenState
  pub ty : TypeText
  pub name : List ℕ

-- an open always-block: the blocks before it, its name and its first tokens
pub record OpenAlways : Type 0 where
  pub within : Open
  pub before : List BlockTree
  pub first : Token
  pub name : List ℕ

-- ---- An open production: the nesting at which it stands, and what was read of it.
pub data Frame : Type 0 where
  f_unary : ℕ → Token → UnOp → Frame
  f_cast : ℕ → Token → CastTo → Frame
  f_binary : ℕ → Part → Token → Frame
  f_round : ℕ → Token → Frame
  f_index : ℕ → Part → Frame
  f_range : ℕ → Part → Part → Frame
  f_then : ℕ → Part → Frame
  f_else : ℕ → Part → Part → Frame
  -- places
  f_x : ℕ → Token → Frame
  f_mem : ℕ → Token → Frame
  f_mem_range : ℕ → Token → Part → Frame
  -- assignments: a step before its place, a place that is set, a whole statement, the last part of a loop's head
  f_step : Token → BinOp → Frame
  f_set : ℕ → Place → Option BinOp → Frame
  f_single : ℕ → Frame
  f_last : ℕ → Token → Option TypeText → List ℕ → Part → Part → Frame
  -- types: of a cast, of locals, of a loop, of a register, of a table
  f_type_cast : ℕ → Token → Frame
  f_type_locals : ℕ → Frame
  f_type_loop : ℕ → Token → Frame
  f_type_register : OpenState → Frame
  f_type_table : OpenState → Frame
  -- declarations: the type and those before, and a name whose value is read
  f_locals : ℕ → TypeText → List DeclTree → Frame
  f_value : Token → List ℕ → Frame
  -- statements
  f_if : ℕ → Token → Frame
  f_branch : ℕ → Token → Part → Frame
  f_other : ℕ → Token → Part → Done → Frame
  f_start : ℕ → Token → Option TypeText → List ℕ → Frame
  f_test : ℕ → Token → Option TypeText → List ℕ → Part → Frame
  f_loop : ℕ → Token → Option TypeText → List ℕ → Part → Part → AssignTree → Frame
  f_spawn : ℕ → Token → Frame
  f_block : ℕ → Token → List StmtTree → Frame
  -- sections: a register's value, a table's entries, an instruction's behaviour, an always-block
  f_register : NamedState → Frame
  f_entries : NamedState → ℕ → List ExprTree → Frame
  f_behavior : OpenInstr → Frame
  f_always : OpenAlways → Frame

abbrev pub Stack : Type 0
Stack = List Frame

-- ---- States, by what is wanted next.
pub data State : Type 0 where
  -- an expression, or what goes on with one
  want : ℕ → Stack → State
  have : ℕ → Part → Stack → State
  -- behind `(`: a type of a cast, or an expression; behind `( signed` or `( unsigned`
  opened : ℕ → Token → Stack → State
  cast_word : ℕ → Token → Token → Bool → Stack → State
  -- a type; `<`, the width and `>` of one; what goes on behind one
  typing : ℕ → Stack → State
  type_less : ℕ → Token → Bool → Stack → State
  type_width : ℕ → Token → Bool → Stack → State
  type_greater : ℕ → Token → Bool → ℕ → Stack → State
  typed : TypeText → Stack → State
  -- a place; the `[` of one; what goes on behind one; behind an assignment
  placing : ℕ → Stack → State
  x_square : ℕ → Token → Stack → State
  mem_square : ℕ → Token → Stack → State
  placed : Place → Stack → State
  assigned : AssignTree → Stack → State
  -- a declaration's name; behind it
  naming : ℕ → TypeText → List DeclTree → Stack → State
  named : ℕ → Token → List ℕ → Stack → State
  -- a statement; a statement of a block or its end; what goes on behind a statement
  stmt : ℕ → Stack → State
  item : ℕ → Token → List StmtTree → Stack → State
  done : Done → Stack → State
  -- the `(` of an `if` and of a `for`, the parts of a loop's head
  if_round : ℕ → Token → Stack → State
  for_round : ℕ → Token → Stack → State
  for_head : ℕ → Token → Stack → State
  for_equals : ℕ → Token → Option TypeText → List ℕ → Stack → State
  assigning : ℕ → Stack → State
  -- fixed tokens of a nesting, and then a state
  fixed : ℕ → TokenKind → List TokenKind → State → State
  -- the text
  starting : State
  set_name : Token → State
  sections : Token → List ℕ → List SectionTree → State
  ended : TextTree → State
  states : Open → List StateTree → State
  instructions : Open → List InstrTree → State
  blocks : Open → List BlockTree → State
  -- a register or a table
  state_word : OpenState → State
  table_length : NamedState → State
  table_end : NamedState → ℕ → List ExprTree → State
  -- an instruction
  piece : OpenInstr → State
  piece_square : OpenInstr → Token → List ℕ → State
  piece_high : OpenInstr → Token → List ℕ → State
  piece_colon : OpenInstr → Token → List ℕ → ℕ → State
  piece_low : OpenInstr → Token → List ℕ → ℕ → State
  piece_end : OpenInstr → Token → List ℕ → ℕ → ℕ → State
  piece_next : OpenInstr → State
  after_pieces : OpenInstr → State
  assembly_text : OpenInstr → State
  assembly_more : OpenInstr → State
  assembly_next : OpenInstr → State
  -- an always-block
  always_brace : Open → List BlockTree → Token → List ℕ → State

-- the token's nesting and the next state, or that no token of that kind may come
pub data Next : Type 0 where
  stop : Next
  go : ℕ → State → Next

abbrev pub only : Bool → ℕ → State → Next
only b m z = if b then go m z else stop

-- ---- kinds of token
abbrev pub is : TokenKind → TokenKind → Bool
is (Word m) (Word n) = nat_eq m n
is (Symbol m) (Symbol n) = nat_eq m n
is _ _ = false

abbrev pub word_primary : Span → ℕ → Option ExprTree
word_primary s n =
    if nat_eq n 19 then Some (e_pc s)
    else if nat_eq n 20 then Some (e_x s)
    else if nat_eq n 21 then Some (e_mem s)
    else if nat_eq n 22 then Some (e_literal s bit_type one_bit)
    else if nat_eq n 23 then Some (e_literal s bit_type zero_bit)
    else None

abbrev pub primary : Span → TokenKind → Option ExprTree
primary s (Name n) = Some (e_name s n)
primary s (Unsized ty b) = Some (e_literal s ty b)
primary s (Sized ty b) = Some (e_literal s ty b)
primary s (Word n) = word_primary s n
primary s _ = None

abbrev pub unary_of : TokenKind → Option UnOp
unary_of k = if is k minus then Some U.Neg else if is k tilde then Some U.Not else if is k bang then Some U.Lnot else None

abbrev pub step_of : TokenKind → Option BinOp
step_of k = if is k plus_plus then Some B.Add else if is k minus_minus then Some B.Sub else None

abbrev pub assign_of : TokenKind → Option (Option BinOp)
assign_of k =
    if is k equals then Some None
    else if is k (Symbol 11) then Some (Some B.Add)
    else if is k (Symbol 12) then Some (Some B.Sub)
    else if is k (Symbol 13) then Some (Some B.Mul)
    else if is k (Symbol 14) then Some (Some B.And)
    else if is k (Symbol 15) then Some (Some B.Or)
    else if is k (Symbol 16) then Some (Some B.Xor)
    else if is k (Symbol 17) then Some (Some B.Shl)
    else if is k (Symbol 18) then Some (Some B.Shr)
    else None

abbrev pub sized_type : Bool → ℕ → TypeKind
sized_type signed w = if signed then T.Signed w else T.Unsigned w

abbrev pub bare_cast : Bool → CastTo
bare_cast signed = if signed then C.Signed else C.Unsigned

-- ---- what ends at a token: the productions of an expression
abbrev pub hold : Frame → ℕ
hold (f_unary d t op) = 24
hold (f_cast d t to) = 24
hold (f_binary d x t) = power t.kind
hold (f_else d c x) = 1
hold _ = 0

abbrev pub grip : Stack → ℕ
grip [] = 0
grip (f ∷ k) = hold f

-- the nesting at which a production of an expression stands
abbrev pub level : ℕ → Frame → ℕ
level e (f_unary d t op) = d
level e (f_cast d t to) = d
level e (f_binary d x t) = d
level e (f_else d c x) = d
level e _ = e

abbrev pub made : Part → Frame → Part
made v (f_unary d t op) = p_unary t op v
made v (f_cast d t to) = p_cast t to v
made v (f_binary d x t) = p_binary x t v
made v (f_else d c x) = p_choose c x v
made v _ = v

-- the productions end that a token of power p ends
unfoldable pub settle : ℕ → ℕ → Part → Stack → State
settle p d v [] = have d v []
settle p d v (f ∷ k) = if nat_le p (hold f) then settle p (level d f) (made v f) k else have d v (f ∷ k)

-- ---- and those of a statement
abbrev pub hold_stmt : Frame → ℕ
hold_stmt (f_branch d t c) = 1
hold_stmt (f_other d t c s) = 2
hold_stmt (f_loop d t y n a b l) = 2
hold_stmt (f_spawn d t) = 2
hold_stmt _ = 0

abbrev pub made_stmt : Done → Frame → Done
made_stmt s (f_branch d t c) = d_if t c s
made_stmt s (f_other d t c r) = d_if_else t c r s
made_stmt s (f_loop d t y n a b l) = d_for t y n a b l s
made_stmt s (f_spawn d t) = d_spawn t s
made_stmt s _ = s

abbrev pub power_stmt : TokenKind → ℕ
power_stmt k = if is k else_word then 2 else 1

unfoldable pub settle_stmt : ℕ → Done → Stack → State
settle_stmt p s [] = done s []
settle_stmt p s (f ∷ k) = if nat_le p (hold_stmt f) then settle_stmt p (made_stmt s f) k else done s (f ∷ k)

-- ---- assignments
abbrev pub after_assign : AssignTree → Stack → Token → Next
after_assign a (f_single d ∷ k) t = only (is t.kind semicolon) d (done (d_assign a t) k)
after_assign a (f_last d f y n x v ∷ k) t = only (is t.kind close_round) (d + 1) (stmt (d + 1) (f_loop d f y n x v a ∷ k))
after_assign a _ t = stop

-- the nesting at which an assignment stands
abbrev pub around : Stack → ℕ
around (f_single d ∷ k) = d
around (f_last d f y n x v ∷ k) = d + 1
around _ = 0

abbrev pub step_behind : Place → Stack → Option BinOp → Token → Next
step_behind l k None t = stop
step_behind l k (Some op) t = go (around k) (assigned (assign_after l op t) k)

abbrev pub set_or_step : Place → Stack → Option (Option BinOp) → Token → Next
set_or_step l k None t = step_behind l k (step_of t.kind) t
set_or_step l k (Some op) t = go (around k) (want (around k) (f_set (around k) l op ∷ k))

abbrev pub after_place : Place → Stack → Token → Next
after_place l (f_step s op ∷ k) t = after_assign (assign_before s op l) k t
after_place l k t = set_or_step l k (assign_of t.kind) t

abbrev pub begin_place : ℕ → Stack → Token → TokenKind → Next
begin_place d k t (Name n) = go d (placed (place_name t n) k)
begin_place d k t (Word n) =
    if nat_eq n 19 then go d (placed (place_pc t) k) else if nat_eq n 20 then go d (x_square d t k) else only (nat_eq n 21) d (mem_square d t k)
begin_place d k t _ = stop

abbrev pub begin_assign : ℕ → Stack → Token → Option BinOp → Next
begin_assign d k t None = begin_place d k t t.kind
begin_assign d k t (Some op) = go d (placing d (f_step t op ∷ k))

-- ---- declarations
abbrev pub after_decl : ℕ → DeclTree → TypeText → List DeclTree → Stack → Token → Next
after_decl d x y xs k t =
    if is t.kind comma then go d (naming d y (xs ++ x ∷ []) k) else only (is t.kind semicolon) d (done (d_locals y (xs ++ x ∷ []) t) k)

abbrev pub after_value : Token → List ℕ → Option Part → Stack → Token → Next
after_value n name v (f_locals d y xs ∷ k) t = after_decl d (decl n name v) y xs k t
after_value n name v (f_register r ∷ k) t =
    only (is t.kind semicolon) 0 (states r.state.within (r.state.before ++ register_tree r.state.first r.ty r.name v t ∷ []))
after_value n name v _ t = stop

-- ---- types
abbrev pub begin_type : ℕ → Stack → Token → Next
begin_type d k t =
    if is t.kind signed_word then go d (type_less d t true k)
    else if is t.kind unsigned_word then go d (type_less d t false k)
    else if is t.kind int_word then go d (typed (type_text t t T.Int) k)
    else only (is t.kind bool_word) d (typed (type_text t t T.Bool) k)

abbrev pub is_type_word : TokenKind → Bool
is_type_word k = is k signed_word || is k unsigned_word || is k int_word || is k bool_word

abbrev pub after_type : TypeText → Stack → Token → TokenKind → Next
after_type y (f_type_cast d o ∷ k) t kind = only (is kind close_round) (d + 1) (want (d + 1) (f_cast d o (C.Written y) ∷ k))
after_type y (f_type_locals d ∷ k) t (Name n) = go d (named d t n (f_locals d y [] ∷ k))
after_type y (f_type_loop d f ∷ k) t (Name n) = go (d + 1) (for_equals d f (Some y) n k)
after_type y (f_type_register r ∷ k) t (Name n) =
    go 0 (named 0 t n (f_register (record { state = r; ty = y; name = n }) ∷ []))
after_type y (f_type_table r ∷ k) t (Name n) = go 0 (fixed 1 open_square [] (table_length (record { state = r; ty = y; name = n })))
after_type y k t kind = stop

-- ---- expressions
abbrev pub want_unary : ℕ → Stack → Token → Option UnOp → Next
want_unary d k t None = only (is t.kind open_round) (d + 1) (opened d t k)
want_unary d k t (Some op) = go d (want (d + 1) (f_unary d t op ∷ k))

abbrev pub want_primary : ℕ → Stack → Token → Option ExprTree → Next
want_primary d k t None = want_unary d k t (unary_of t.kind)
want_primary d k t (Some v) = go d (have d (p_primary t v) k)

abbrev pub begin_expr : ℕ → Stack → Token → Next
begin_expr d k t = want_primary d k t (primary t.span t.kind)

-- behind `(`
abbrev pub after_open : ℕ → Token → Stack → Token → Next
after_open d o k t =
    if is t.kind signed_word then go (d + 1) (cast_word d o t true k)
    else if is t.kind unsigned_word then go (d + 1) (cast_word d o t false k)
    else if is_type_word t.kind then begin_type (d + 1) (f_type_cast d o ∷ k) t
    else begin_expr (d + 1) (f_round d o ∷ k) t

-- behind `( signed` or `( unsigned`
abbrev pub after_cast_word : ℕ → Token → Token → Bool → Stack → Token → Next
after_cast_word d o s signed k t =
    if is t.kind close_round then go (d + 1) (want (d + 1) (f_cast d o (bare_cast signed) ∷ k))
    else only (is t.kind less) (d + 1) (type_width (d + 1) s signed (f_type_cast d o ∷ k))

-- a closing token behind an expression
abbrev pub close : ℕ → Part → Stack → Token → Next
close e v (f_round d o ∷ k) t = only (is t.kind close_round) (d + 1) (have d (p_round o v t) k)
close e v (f_index d x ∷ k) t =
    if is t.kind colon then go (d + (before 26 x + 1)) (want (d + (before 26 x + 1)) (f_range d x v ∷ k))
    else only (is t.kind close_square) (d + (before 26 x + 1)) (have d (p_index x v t) k)
close e v (f_range d x y ∷ k) t = only (is t.kind close_square) (d + (before 26 x + 1)) (have d (p_range x y v t) k)
close e v (f_then d c ∷ k) t = only (is t.kind colon) d (want (d + 1) (f_else d c v ∷ k))
close e v (f_x d w ∷ k) t = only (is t.kind close_square) (d + 1) (placed (place_x w v t) k)
close e v (f_mem d w ∷ k) t =
    if is t.kind colon then go (d + 1) (want (d + 1) (f_mem_range d w v ∷ k)) else only (is t.kind close_square) (d + 1) (placed (place_mem w v t) k)
close e v (f_mem_range d w x ∷ k) t = only (is t.kind close_square) (d + 1) (placed (place_mem_range w x v t) k)
close e v (f_set d l op ∷ k) t = after_assign (assign_set l op v) k t
close e v (f_value n name ∷ k) t = after_value n name (Some v) k t
close e v (f_if d i ∷ k) t = only (is t.kind close_round) (d + 1) (stmt (d + 1) (f_branch d i v ∷ k))
close e v (f_start d f y n ∷ k) t = only (is t.kind semicolon) (d + 1) (want (d + 1) (f_test d f y n v ∷ k))
close e v (f_test d f y n x ∷ k) t = only (is t.kind semicolon) (d + 1) (assigning (d + 1) (f_last d f y n x v ∷ k))
close e v (f_entries r w xs ∷ k) t =
    if is t.kind comma then go 0 (want 0 (f_entries r w (xs ++ v.tree ∷ []) ∷ k))
    else only (is t.kind close_brace) 0 (table_end r w (xs ++ v.tree ∷ []))
close e v _ t = stop

unfoldable pub after : ℕ → ℕ → Part → Stack → Token → Next
after p d v k t =
    if nat_eq p 1 then close d v k t
    else if nat_eq p 2 then go d (want (d + 1) (f_then d v ∷ k))
    else if nat_eq p 26 then go (d + (before 26 v + 1)) (want (d + (before 26 v + 1)) (f_index d v ∷ k))
    else go (d + before p v) (want (d + (before p v + 1)) (f_binary d v t ∷ k))

-- ---- statements
unfoldable pub begin_stmt : ℕ → Stack → Token → Next
begin_stmt d k t =
    if is t.kind open_brace then go d (item d t [] k)
    else if is t.kind semicolon then go d (done (d_empty t) k)
    else if is_type_word t.kind then begin_type d (f_type_locals d ∷ k) t
    else if is t.kind if_word then go d (if_round d t k)
    else if is t.kind for_word then go d (for_round d t k)
    else if is t.kind spawn_word then go d (stmt (d + 1) (f_spawn d t ∷ k))
    else begin_assign d (f_single d ∷ k) t (step_of t.kind)

abbrev pub in_block : ℕ → Token → List StmtTree → Stack → Token → Next
in_block d o ss k t = if is t.kind close_brace then go d (done (d_block o ss t) k) else begin_stmt (d + 1) (f_block d o ss ∷ k) t

abbrev pub after_section : Open → SectionTree → State
after_section o x = sections o.first o.name (o.sections ++ x ∷ [])

abbrev pub begin_always : Open → List BlockTree → Token → TokenKind → Next
begin_always o xs t (Name n) = go 0 (always_brace o xs t n)
begin_always o xs t kind = only (is kind close_brace) 0 (after_section o (section_tree o.word (k_always xs) t))

abbrev pub always_done : OpenAlways → Done → BlockTree
always_done a s = record { span = span a.first.span.from s.to; name = a.name; body = s.stmt }

abbrev pub after_stmt : Done → Stack → Token → Next
after_stmt s (f_branch d i c ∷ k) t = only (is t.kind else_word) d (stmt (d + 1) (f_other d i c s ∷ k))
after_stmt s (f_block d o ss ∷ k) t = if is t.kind else_word then stop else in_block d o (ss ++ s.stmt ∷ []) k t
after_stmt s (f_behavior i ∷ k) t =
    only (is t.kind close_brace) 0 (instructions i.within (i.before ++ instr_tree i.first i.name i.pieces s t ∷ []))
after_stmt s (f_always a ∷ k) t = begin_always a.within (a.before ++ always_done a s ∷ []) t t.kind
after_stmt s _ t = stop

-- ---- sections
unfoldable pub begin_section : Token → List ℕ → List SectionTree → Token → Next
begin_section f n xs t =
    let o : Open = record { first = f; name = n; sections = xs; word = t } in
    if is t.kind close_brace then go 0 (ended (text_tree f n xs t))
    else if is t.kind architectural_state then go 0 (fixed 0 open_brace [] (states o []))
    else if is t.kind instructions_word then go 0 (fixed 0 open_brace [] (instructions o []))
    else only (is t.kind always_word) 0 (fixed 0 open_brace [] (blocks o []))

unfoldable pub begin_state : Open → List StateTree → Token → Next
begin_state o xs t =
    let r : OpenState = record { within = o; before = xs; first = t } in
    if is t.kind close_brace then go 0 (after_section o (section_tree o.word (k_states xs) t))
    else if is t.kind register_word then go 0 (state_word r)
    else only (is t.kind const_word) 0 (typing 0 (f_type_table r ∷ []))

-- behind `register`
abbrev pub after_register : OpenState → Token → Next
after_register r t = if is t.kind const_word then go 0 (typing 0 (f_type_table r ∷ [])) else begin_type 0 (f_type_register r ∷ []) t

abbrev pub begin_instr : Open → List InstrTree → Token → TokenKind → Next
begin_instr o xs t (Name n) =
    go 0 (fixed 0 open_brace (encoding_word ∷ colon ∷ []) (piece (record { within = o; before = xs; first = t; name = n; pieces = [] })))
begin_instr o xs t kind = only (is kind close_brace) 0 (after_section o (section_tree o.word (k_instructions xs) t))

abbrev pub more_pieces : OpenInstr → PieceText → OpenInstr
more_pieces i x = record i { pieces = i.pieces ++ x ∷ [] }

abbrev pub begin_piece : OpenInstr → Token → TokenKind → Next
begin_piece i t (Sized ty b) = go 0 (piece_next (more_pieces i (fixed_piece t b)))
begin_piece i t (Name n) = go 0 (piece_square i t n)
begin_piece i t _ = stop

abbrev pub behavior : OpenInstr → State
behavior i = fixed 0 colon [] (stmt 0 (f_behavior i ∷ []))

unfoldable pub after_assembly : OpenInstr → Token → TokenKind → Next
after_assembly i t Text = go 0 (fixed 0 semicolon (behavior_word ∷ colon ∷ []) (stmt 0 (f_behavior i ∷ [])))
after_assembly i t kind = only (is kind open_brace) 0 (assembly_more i)

abbrev pub after_comma : OpenInstr → TokenKind → Next
after_comma i Text = go 0 (assembly_next i)
after_comma i _ = stop

abbrev pub width_of : TokenKind → Option ℕ
width_of (Unsized ty b) = Some b.raw
width_of _ = None

abbrev pub with_number : Option ℕ → ℕ → (ℕ → State) → Next
with_number None m z = stop
with_number (Some w) m z = go m (z w)

abbrev pub with_name : TokenKind → ℕ → (List ℕ → State) → Next
with_name (Name n) m z = go m (z n)
with_name _ m z = stop

abbrev pub next_fixed : ℕ → List TokenKind → State → State
next_fixed d [] z = z
next_fixed d (k ∷ ks) z = fixed d k ks z

abbrev pub act : Token → State → Next
act t (want d k) = begin_expr d k t
act t (have d v k) = after (power t.kind) d v k t
act t (opened d o k) = after_open d o k t
act t (cast_word d o s signed k) = after_cast_word d o s signed k t
act t (typing d k) = begin_type d k t
act t (type_less d s signed k) = only (is t.kind less) d (type_width d s signed k)
act t (type_width d s signed k) = with_number (width_of t.kind) d (λ w. type_greater d s signed w k)
act t (type_greater d s signed w k) = only (is t.kind greater) d (typed (type_text s t (sized_type signed w)) k)
act t (typed y k) = after_type y k t t.kind
act t (placing d k) = begin_place d k t t.kind
act t (x_square d w k) = only (is t.kind open_square) (d + 1) (want (d + 1) (f_x d w ∷ k))
act t (mem_square d w k) = only (is t.kind open_square) (d + 1) (want (d + 1) (f_mem d w ∷ k))
act t (placed l k) = after_place l k t
act t (assigned a k) = after_assign a k t
act t (naming d y xs k) = with_name t.kind d (λ n. named d t n (f_locals d y xs ∷ k))
act t (named d n name k) = if is t.kind equals then go d (want d (f_value n name ∷ k)) else after_value n name None k t
act t (stmt d k) = begin_stmt d k t
act t (item d o ss k) = in_block d o ss k t
act t (done s k) = after_stmt s k t
act t (if_round d i k) = only (is t.kind open_round) (d + 1) (want (d + 1) (f_if d i ∷ k))
act t (for_round d f k) = only (is t.kind open_round) (d + 1) (for_head d f k)
act t (for_head d f k) =
    if is_type_word t.kind then begin_type (d + 1) (f_type_loop d f ∷ k) t else with_name t.kind (d + 1) (λ n. for_equals d f None n k)
act t (for_equals d f y n k) = only (is t.kind equals) (d + 1) (want (d + 1) (f_start d f y n ∷ k))
act t (assigning d k) = begin_assign d k t (step_of t.kind)
act t (fixed d kind ks z) = only (is t.kind kind) d (next_fixed d ks z)
act t starting = only (is t.kind instruction_set) 0 (set_name t)
act t (set_name f) = with_name t.kind 0 (λ n. fixed 0 extends_word (rv32i_word ∷ open_brace ∷ []) (sections f n []))
act t (sections f n xs) = begin_section f n xs t
act t (ended x) = stop
act t (states o xs) = begin_state o xs t
act t (instructions o xs) = begin_instr o xs t t.kind
act t (blocks o xs) = begin_always o xs t t.kind
act t (state_word r) = after_register r t
act t (table_length r) = with_number (width_of t.kind) 1 (λ w. fixed 1 close_square [] (fixed 0 equals (open_brace ∷ []) (want 0 (f_entries r w [] ∷ []))))
act t (table_end r w xs) = only (is t.kind semicolon) 0 (states r.state.within (r.state.before ++ table_tree r.state.first r.ty r.name w xs t ∷ []))
act t (piece i) = begin_piece i t t.kind
act t (piece_square i f n) = only (is t.kind open_square) 1 (piece_high i f n)
act t (piece_high i f n) = with_number (width_of t.kind) 1 (λ w. piece_colon i f n w)
act t (piece_colon i f n hi) = only (is t.kind colon) 1 (piece_low i f n hi)
act t (piece_low i f n hi) = with_number (width_of t.kind) 1 (λ w. piece_end i f n hi w)
act t (piece_end i f n hi lo) = only (is t.kind close_square) 1 (piece_next (more_pieces i (field_piece f n hi lo t)))
act t (piece_next i) = if is t.kind double_colon then go 0 (piece i) else only (is t.kind semicolon) 0 (after_pieces i)
act t (after_pieces i) =
    if is t.kind behavior_word then go 0 (behavior i) else only (is t.kind assembly_word) 0 (fixed 0 colon [] (assembly_text i))
act t (assembly_text i) = after_assembly i t t.kind
act t (assembly_more i) = after_comma i t.kind
act t (assembly_next i) =
    if is t.kind comma then go 0 (assembly_more i)
    else only (is t.kind close_brace) 0 (fixed 0 semicolon (behavior_word ∷ colon ∷ []) (stmt 0 (f_behavior i ∷ [])))
act t (always_brace o xs f n) =
    only (is t.kind open_brace) 0 (item 0 t [] (f_always (record { within = o; before = xs; first = f; name = n }) ∷ []))

abbrev pub ready : Token → State → State
ready t (have d v k) = settle (power t.kind) d v k
ready t (done s k) = settle_stmt (power_stmt t.kind) s k
ready t s = s

unfoldable pub step : State → Token → Next
step s t = act t (ready t s)

-- ---- the nestings of the tokens that are read, and how it ends
pub data Outcome : Type 0 where
  accept : TextTree → Outcome
  stuck : List Token → Outcome
  then_at : ℕ → Outcome → Outcome

abbrev pub finish : State → Outcome
finish (ended x) = accept x
finish _ = stuck []

unfoldable pub run : State → List Token → Outcome
run s [] = finish s
run s (t ∷ ts) = elim (step s t) [ stop ↦ stuck (t ∷ ts) | go m z ↦ then_at m (run z ts) ]

abbrev pub marked : List ℕ → Outcome → Outcome
marked [] o = o
marked (m ∷ ms) o = then_at m (marked ms o)
