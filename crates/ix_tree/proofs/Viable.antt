-- Each state that is reached has tokens that lead to the end of a text.
use Rattle.std.proofs.Common.{◌≡◌, ℕ, ◌+◌, ◌≤◌, List, [], ◌∷◌, ◌++◌, refl, ◌∙◌, arith, Option, Some, None}
use Rattle.ix_bits.specs.declared.operator.BinOp.{BinOp}
use Rattle.ix_tree.specs.declared.token.Token.{Token}
use Rattle.ix_tree.specs.declared.token.TokenKind.{TokenKind}
use Rattle.ix_tree.specs.declared.token.TokenKind.TheVariants.{Name, Unsized}
use Rattle.ix_tree.specs.declared.expr.TypeText.{TypeText}
use Rattle.ix_tree.specs.declared.expr.CastTo.TheVariants as C
use Rattle.ix_tree.specs.Tokens.{open_brace, close_brace, open_square, close_square, close_round, semicolon, colon, equals}
use Rattle.ix_tree.specs.Trees.{ExprTree, e_name, Place, AssignTree, DeclTree, StmtTree, StateTree, InstrTree, BlockTree, k_states, k_instructions, k_always, SectionTree, TextTree, span, power, Part, before, p_primary, p_round, p_index, p_range}
use Rattle.ix_tree.specs.Productions.{bit_type, zero_bit, place_name, place_x, place_mem, place_mem_range, assign_set, assign_before, decl, Done, d_block, d_empty, d_locals, d_assign, register_tree, table_tree, instr_tree, section_tree, text_tree}
use Rattle.ix_tree.specs.Machine.{Open, OpenInstr, NamedState, OpenAlways, Frame, f_unary, f_cast, f_binary, f_round, f_index, f_range, f_then, f_else, f_x, f_mem, f_mem_range, f_step, f_set, f_single, f_last, f_type_cast, f_type_locals, f_type_loop, f_type_register, f_type_table, f_locals, f_value, f_if, f_branch, f_other, f_start, f_test, f_loop, f_spawn, f_block, f_register, f_entries, f_behavior, f_always, Stack, State, want, have, typed, placed, named, stmt, done, for_equals, assigning, fixed, sections, ended, states, instructions, blocks, table_length, table_end, go, hold, level, made, hold_stmt, made_stmt, settle_stmt, after_assign, around, after_value, close, begin_stmt, after_section, always_done, begin_section, begin_state, step, accept, run, marked}
use Rattle.ix_tree.proofs.Steps.{Ends, popped, step_close, EndsStmt, weaken_stmt, popped_stmt, take_one}
use Rattle.ix_tree.proofs.Reached.{InStmt, i_behavior, i_branch, i_other, i_loop, i_spawn, i_block, i_always, InAssign, i_single, i_last, InPlace, i_plain, i_step, in_decls, InNamed, in_local, in_register, InExpr, i_unary, i_cast, i_binary, i_round, i_index, i_range, i_then, i_else, i_x, i_mem, i_mem_range, i_set, i_value, i_if, i_start, i_test, i_entries, InType, i_type_cast, i_type_locals, i_type_loop, i_type_register, i_type_table}

-- ---- tokens to go on with
abbrev pub any : TokenKind → Token
any k = record { kind = k; span = span 0 0 }

abbrev pub a_name : Token
a_name = any (Name [])

abbrev pub a_number : Token
a_number = any (Unsized bit_type zero_bit)

abbrev pub of_name : Part
of_name = p_primary a_name (e_name (span 0 0) [])

-- ---- a state with such tokens
pub record Closes (s : State) (ts : List Token) : Type 0 where
  pub nestings : List ℕ
  pub tree : TextTree
  pub is : run s ts ≡ marked nestings (accept tree)

pub record Closing (s : State) : Type 0 where
  pub tokens : List Token
  pub closes : Closes s tokens

pub by_step : (s : State) (t : Token) (ts : List Token) (m : ℕ) (z : State) → step s t ≡ go m z → Closes z ts → Closes s (t ∷ ts)
by_step s t ts m z e h = record { nestings = m ∷ h.nestings; tree = h.tree; is = take_one s t ts m z e h.is }

pub by_same : {s z : State} (ts : List Token) → run s ts ≡ run z ts → Closes z ts → Closes s ts
by_same ts e h = record { nestings = h.nestings; tree = h.tree; is = e ∙ h.is }

pub first_step : (s : State) (t : Token) (m : ℕ) (z : State) → step s t ≡ go m z → Closing z → Closing s
first_step s t m z e h = record { tokens = t ∷ h.tokens; closes = by_step s t h.tokens m z e h.closes }

-- ---- sections
pub closes_ended : (x : TextTree) → Closes (ended x) []
unfolding run
closes_ended x = record { nestings = []; tree = x; is = refl }

pub closes_sections : (f : Token) (n : List ℕ) (xs : List SectionTree) → Closes (sections f n xs) (any close_brace ∷ [])
unfolding step begin_section
closes_sections f n xs = by_step (sections f n xs) (any close_brace) [] 0 (ended (text_tree f n xs (any close_brace))) refl (closes_ended _)

pub closes_states : (o : Open) (xs : List StateTree) → Closes (states o xs) (any close_brace ∷ any close_brace ∷ [])
unfolding step begin_state
closes_states o xs = by_step (states o xs) (any close_brace) _ 0 (after_section o (section_tree o.word (k_states xs) (any close_brace))) refl (closes_sections _ _ _)

pub closes_instructions : (o : Open) (xs : List InstrTree) → Closes (instructions o xs) (any close_brace ∷ any close_brace ∷ [])
unfolding step
closes_instructions o xs = by_step (instructions o xs) (any close_brace) _ 0 (after_section o (section_tree o.word (k_instructions xs) (any close_brace))) refl (closes_sections _ _ _)

pub closes_blocks : (o : Open) (xs : List BlockTree) → Closes (blocks o xs) (any close_brace ∷ any close_brace ∷ [])
unfolding step
closes_blocks o xs = by_step (blocks o xs) (any close_brace) _ 0 (after_section o (section_tree o.word (k_always xs) (any close_brace))) refl (closes_sections _ _ _)

pub closes_done_always : (x : OpenAlways) (s : Done) → Closes (done s (f_always x ∷ [])) (any close_brace ∷ any close_brace ∷ [])
unfolding step settle_stmt
closes_done_always x s =
    by_step (done s (f_always x ∷ [])) (any close_brace) _ 0 (after_section x.within (section_tree x.within.word (k_always (x.before ++ always_done x s ∷ [])) (any close_brace))) refl (closes_sections _ _ _)

-- ---- statements
pub record EndStmt (k : Stack) : Type 0 where
  pub tokens : List Token
  pub ends : EndsStmt 1 tokens
  pub closes : (s : Done) → Closes (done s k) tokens

two : (ts : List Token) → EndsStmt 1 ts → EndsStmt 2 ts
two ts e = weaken_stmt 2 1 ts (omega arith) e

-- a production that ends with its statement
abbrev pops : (f : Frame) (k : Stack) → 1 ≤ hold_stmt f → EndStmt k → EndStmt (f ∷ k)
pops f k l h = record {
  tokens = h.tokens;
  ends = h.ends;
  closes = λ s. by_same h.tokens (popped_stmt s f k h.tokens (weaken_stmt (hold_stmt f) 1 h.tokens l h.ends)) (h.closes (made_stmt s f));
}

closes_behavior : (i : OpenInstr) (s : Done) → Closes (done s (f_behavior i ∷ [])) (any close_brace ∷ any close_brace ∷ any close_brace ∷ [])
unfolding step settle_stmt
closes_behavior i s =
    by_step (done s (f_behavior i ∷ [])) (any close_brace) _ 0 (instructions i.within (i.before ++ instr_tree i.first i.name i.pieces s (any close_brace) ∷ [])) refl (closes_instructions _ _)

pub end_behavior : (i : OpenInstr) → EndStmt (f_behavior i ∷ [])
end_behavior i = record { tokens = any close_brace ∷ any close_brace ∷ any close_brace ∷ []; ends = omega arith; closes = closes_behavior i }

closes_block : (d : ℕ) (o : Token) (ss : List StmtTree) (k : Stack) (ts : List Token) → ((s : Done) → Closes (done s k) ts) → (s : Done)
    → Closes (done s (f_block d o ss ∷ k)) (any close_brace ∷ ts)
unfolding step settle_stmt
closes_block d o ss k ts h s = by_step (done s (f_block d o ss ∷ k)) (any close_brace) ts d (done (d_block o (ss ++ s.stmt ∷ []) (any close_brace)) k) refl (h _)

end_block : (d : ℕ) (o : Token) (ss : List StmtTree) (k : Stack) (ts : List Token) → ((s : Done) → Closes (done s k) ts) → EndStmt (f_block d o ss ∷ k)
end_block d o ss k ts h = record { tokens = any close_brace ∷ ts; ends = omega arith; closes = closes_block d o ss k ts h }

pub end_stmt : {d : ℕ} {k : Stack} {p : List Token} {ms : List ℕ} → InStmt d k p ms → EndStmt k
end_stmt (i_behavior {i = i} h) = end_behavior i
end_stmt (i_branch {d = d} {k = k} {c = c} t o r e f g h i) = pops (f_branch d t c) k (omega arith) (end_stmt i)
end_stmt (i_other {d = d} {k = k} {c = c} {s = s} t o r x e f g h u v i) = pops (f_other d t c s) k (omega arith) (end_stmt i)
end_stmt (i_loop {d = d} {k = k} {t = t} {y = y} {n = n} {v = v} {w = w} {a = x} h i) = pops (f_loop d t y n v w x) k (omega arith) (end_stmt i)
end_stmt (i_spawn {d = d} {k = k} t e i) = pops (f_spawn d t) k (omega arith) (end_stmt i)
end_stmt (i_block {d = d} {k = k} {ss = ss} o e h i) = let r = end_stmt i in end_block d o ss k r.tokens r.closes
end_stmt (i_always {a = x} {ss = ss} o e f h i) = end_block 0 o ss (f_always x ∷ []) (any close_brace ∷ any close_brace ∷ []) (closes_done_always x)

-- `;` for a statement that is wanted
pub closes_stmt : (d : ℕ) (k : Stack) → (h : EndStmt k) → Closes (stmt d k) (any semicolon ∷ h.tokens)
unfolding step begin_stmt
closes_stmt d k h = by_step (stmt d k) (any semicolon) h.tokens d (done (d_empty (any semicolon)) k) refl (h.closes _)

-- ---- assignments: the token that ends one, and what follows
pub record EndAssign (k : Stack) : Type 0 where
  pub closer : Token
  pub plain : power closer.kind ≡ 1
  pub nesting : ℕ
  pub next : AssignTree → State
  pub goes : (x : AssignTree) → after_assign x k closer ≡ go nesting (next x)
  pub tokens : List Token
  pub closes : (x : AssignTree) → Closes (next x) tokens

closer_power : (power semicolon ≡ 1) × (power close_round ≡ 1)
unfolding power
closer_power = (refl, refl)

abbrev end_single : (d : ℕ) (k : Stack) → EndStmt k → EndAssign (f_single d ∷ k)
end_single d k h = record {
  closer = any semicolon;
  plain = closer_power.0;
  nesting = d;
  next = λ x. done (d_assign x (any semicolon)) k;
  goes = λ x. refl;
  tokens = h.tokens;
  closes = λ x. h.closes (d_assign x (any semicolon));
}

abbrev end_last : (d : ℕ) (f : Token) (y : Option TypeText) (n : List ℕ) (v w : Part) (k : Stack) → EndStmt k → EndAssign (f_last d f y n v w ∷ k)
end_last d f y n v w k h = record {
  closer = any close_round;
  plain = closer_power.1;
  nesting = d + 1;
  next = λ x. stmt (d + 1) (f_loop d f y n v w x ∷ k);
  goes = λ x. refl;
  tokens = any semicolon ∷ h.tokens;
  closes = λ x. closes_stmt (d + 1) (f_loop d f y n v w x ∷ k) (pops (f_loop d f y n v w x) k (omega arith) h);
}

pub end_assign : {d : ℕ} {k : Stack} {p : List Token} {ms : List ℕ} → InAssign d k p ms → EndAssign k
end_assign (i_single {d = d} {k = k} i) = end_single d k (end_stmt i)
end_assign (i_last {d = d} {k = k} {t = f} {y = y} {n = n} {v = v} {w = w} h i) = end_last d f y n v w k (end_stmt i)

-- ---- expressions
pub record EndExpr (k : Stack) : Type 0 where
  pub tokens : List Token
  pub ends : Ends 1 tokens
  pub closes : (d : ℕ) (v : Part) → Closes (have d v k) tokens

-- a name for an expression that is wanted
pub closes_want : (d : ℕ) (k : Stack) (ts : List Token) → ((d : ℕ) (v : Part) → Closes (have d v k) ts) → Closes (want d k) (a_name ∷ ts)
unfolding step
closes_want d k ts h = by_step (want d k) a_name ts d (have d of_name k) refl (h d of_name)

-- a production that ends with its expression
abbrev pub pops_expr : (f : Frame) (k : Stack) → 1 ≤ hold f → EndExpr k → EndExpr (f ∷ k)
pops_expr f k l h = record {
  tokens = h.tokens;
  ends = h.ends;
  closes = λ d v. by_same h.tokens (popped 1 d v f k h.tokens (λ p e. let q : p ≤ 1 = e.0 in omega arith) h.ends) (h.closes (level d f) (made v f));
}

ends_plain : (t : Token) (ts : List Token) → power t.kind ≡ 1 → Ends 1 (t ∷ ts)
ends_plain t ts e = (omega arith, λ f. omega arith, λ f. omega arith)

-- a closing token
abbrev closed_by : (f : Frame) (k : Stack) (t : Token) (ts : List Token) → power t.kind ≡ 1 → hold f ≡ 0 → (m : ℕ) (z : ℕ → Part → State)
    → ((d : ℕ) (v : Part) → close d v (f ∷ k) t ≡ go m (z d v)) → ((d : ℕ) (v : Part) → Closes (z d v) ts)
    → EndExpr (f ∷ k)
closed_by f k t ts e l m z g h = record {
  tokens = t ∷ ts;
  ends = ends_plain t ts e;
  closes = λ d v. by_step (have d v (f ∷ k)) t ts m (z d v) (step_close d v t (f ∷ k) m (z d v) e (omega arith) (g d v)) (h d v);
}

close_power : (power close_square ≡ 1) × (power close_brace ≡ 1) × (power colon ≡ 1)
unfolding power
close_power = (refl, refl, refl)

-- ---- what follows a place
pub record EndPlace (k : Stack) : Type 0 where
  pub tokens : List Token
  pub closes : (l : Place) → Closes (placed l k) tokens

-- the end of the right side of an assignment
abbrev end_set : (d : ℕ) (l : Place) (op : Option BinOp) (k : Stack) → (h : EndAssign k) → EndExpr (f_set d l op ∷ k)
end_set d l op k h = closed_by (f_set d l op) k h.closer h.tokens h.plain refl h.nesting (λ d v. h.next (assign_set l op v)) (λ d v. h.goes _) (λ d v. h.closes _)

set_closes : (l : Place) (k : Stack) → (h : EndAssign k) → step (placed l k) (any equals) ≡ go (around k) (want (around k) (f_set (around k) l None ∷ k))
    → Closes (placed l k) (any equals ∷ a_name ∷ h.closer ∷ h.tokens)
set_closes l k h e =
    by_step (placed l k) (any equals) (a_name ∷ h.closer ∷ h.tokens) (around k) (want (around k) (f_set (around k) l None ∷ k)) e
    (closes_want (around k) (f_set (around k) l None ∷ k) (h.closer ∷ h.tokens) (λ d v. (end_set (around k) l None k h).closes d v))

pub end_place : {d : ℕ} {k : Stack} {p : List Token} {ms : List ℕ} → InPlace d k p ms → EndPlace k
unfolding step
end_place (i_plain {k = k} (i_single i)) = let h = end_assign (i_single i) in record { tokens = any equals ∷ a_name ∷ h.closer ∷ h.tokens; closes = λ l. set_closes l k h refl }
end_place (i_plain {k = k} (i_last u i)) = let h = end_assign (i_last u i) in record { tokens = any equals ∷ a_name ∷ h.closer ∷ h.tokens; closes = λ l. set_closes l k h refl }
end_place (i_step {k = k} {op = op} s u i) =
    let h = end_assign i in
    record { tokens = h.closer ∷ h.tokens; closes = λ l. by_step (placed l (f_step s op ∷ k)) h.closer h.tokens h.nesting (h.next (assign_before s op l)) (h.goes (assign_before s op l)) (h.closes (assign_before s op l)) }

-- ---- what follows a declaration
named_power : power semicolon ≡ 1
unfolding power
named_power = refl

-- `;` behind a name, and behind its value
pub record EndNamed (t : Token) (n : List ℕ) (k : Stack) : Type 0 where
  pub nesting : ℕ
  pub next : Option Part → State
  pub goes : (v : Option Part) → after_value t n v k (any semicolon) ≡ go nesting (next v)
  pub tokens : List Token
  pub closes : (v : Option Part) → Closes (next v) tokens

abbrev pub end_local : (d : ℕ) (t : Token) (n : List ℕ) (y : TypeText) (xs : List DeclTree) (k : Stack) → EndStmt k → EndNamed t n (f_locals d y xs ∷ k)
end_local d t n y xs k h = record {
  nesting = d;
  next = λ v. done (d_locals y (xs ++ decl t n v ∷ []) (any semicolon)) k;
  goes = λ v. refl;
  tokens = h.tokens;
  closes = λ v. h.closes _;
}

abbrev end_register : (t : Token) (r : NamedState) → EndNamed t r.name (f_register r ∷ [])
end_register t r = record {
  nesting = 0;
  next = λ v. states r.state.within (r.state.before ++ register_tree r.state.first r.ty r.name v (any semicolon) ∷ []);
  goes = λ v. refl;
  tokens = any close_brace ∷ any close_brace ∷ [];
  closes = λ v. closes_states _ _;
}

pub end_named : {d : ℕ} {t : Token} {n : List ℕ} {k : Stack} {p : List Token} {ms : List ℕ} → InNamed d t n k p ms → EndNamed t n k
end_named (in_local {d = d} {k = k} {y = y} {xs = xs} t n e (in_decls w m i)) = end_local d t n y xs k (end_stmt i)
end_named (in_register {r = r} t e f y i) = end_register t r

pub closes_named : (d : ℕ) (t : Token) (n : List ℕ) (k : Stack) → (h : EndNamed t n k) → Closes (named d t n k) (any semicolon ∷ h.tokens)
unfolding step
closes_named d t n k h = by_step (named d t n k) (any semicolon) h.tokens h.nesting (h.next None) (h.goes None) (h.closes None)

-- ---- expressions, by what is open
end_range : (d : ℕ) (x y : Part) (k : Stack) → EndExpr k → EndExpr (f_range d x y ∷ k)
end_range d x y k h =
    closed_by (f_range d x y) k (any close_square) h.tokens close_power.0 refl (d + (before 26 x + 1)) (λ e v. have d (p_range x y v (any close_square)) k) (λ e v. refl) (λ e v. h.closes d _)

end_else : (d : ℕ) (c : Part) (k : Stack) → EndExpr k → EndExpr (f_then d c ∷ k)
end_else d c k h =
    closed_by (f_then d c) k (any colon) (a_name ∷ h.tokens) close_power.2 refl d (λ e v. want (d + 1) (f_else d c v ∷ k)) (λ e v. refl)
    (λ e v. closes_want (d + 1) (f_else d c v ∷ k) h.tokens (pops_expr (f_else d c v) k (omega arith) h).closes)

-- a loop's last part, test and start
abbrev last_tokens : List Token → List Token
last_tokens ts = a_name ∷ any equals ∷ a_name ∷ any close_round ∷ any semicolon ∷ ts

closes_last : (d : ℕ) (f : Token) (y : Option TypeText) (n : List ℕ) (v w : Part) (k : Stack) → (h : EndStmt k)
    → Closes (assigning (d + 1) (f_last d f y n v w ∷ k)) (last_tokens h.tokens)
unfolding step
closes_last d f y n v w k h =
    by_step (assigning (d + 1) (f_last d f y n v w ∷ k)) a_name _ (d + 1) (placed (place_name a_name []) (f_last d f y n v w ∷ k)) refl
    (set_closes (place_name a_name []) (f_last d f y n v w ∷ k) (end_last d f y n v w k h) refl)

abbrev end_test : (d : ℕ) (f : Token) (y : Option TypeText) (n : List ℕ) (v : Part) (k : Stack) → EndStmt k → EndExpr (f_test d f y n v ∷ k)
end_test d f y n v k h =
    closed_by (f_test d f y n v) k (any semicolon) (last_tokens h.tokens) closer_power.0 refl (d + 1) (λ e w. assigning (d + 1) (f_last d f y n v w ∷ k)) (λ e w. refl)
    (λ e w. closes_last d f y n v w k h)

abbrev pub start_tokens : List Token → List Token
start_tokens ts = any semicolon ∷ a_name ∷ any semicolon ∷ last_tokens ts

abbrev end_start : (d : ℕ) (f : Token) (y : Option TypeText) (n : List ℕ) (k : Stack) → EndStmt k → EndExpr (f_start d f y n ∷ k)
end_start d f y n k h =
    closed_by (f_start d f y n) k (any semicolon) (a_name ∷ any semicolon ∷ last_tokens h.tokens) closer_power.0 refl (d + 1) (λ e v. want (d + 1) (f_test d f y n v ∷ k)) (λ e v. refl)
    (λ e v. closes_want (d + 1) (f_test d f y n v ∷ k) (any semicolon ∷ last_tokens h.tokens) (end_test d f y n v k h).closes)

pub closes_for_equals : (d : ℕ) (f : Token) (y : Option TypeText) (n : List ℕ) (k : Stack) → (h : EndStmt k) → Closes (for_equals d f y n k) (any equals ∷ a_name ∷ start_tokens h.tokens)
unfolding step
closes_for_equals d f y n k h =
    by_step (for_equals d f y n k) (any equals) _ (d + 1) (want (d + 1) (f_start d f y n ∷ k)) refl
    (closes_want (d + 1) (f_start d f y n ∷ k) (start_tokens h.tokens) (end_start d f y n k h).closes)

-- the entries of a table
pub closes_table_end : (r : NamedState) (w : ℕ) (xs : List ExprTree) → Closes (table_end r w xs) (any semicolon ∷ any close_brace ∷ any close_brace ∷ [])
unfolding step
closes_table_end r w xs =
    by_step (table_end r w xs) (any semicolon) _ 0 (states r.state.within (r.state.before ++ table_tree r.state.first r.ty r.name w xs (any semicolon) ∷ [])) refl (closes_states _ _)

abbrev end_entries : (r : NamedState) (w : ℕ) (xs : List ExprTree) → EndExpr (f_entries r w xs ∷ [])
end_entries r w xs =
    closed_by (f_entries r w xs) [] (any close_brace) (any semicolon ∷ any close_brace ∷ any close_brace ∷ []) close_power.1 refl 0 (λ e v. table_end r w (xs ++ v.tree ∷ [])) (λ e v. refl)
    (λ e v. closes_table_end r w _)

pub end_expr : {d : ℕ} {k : Stack} {p : List Token} {ms : List ℕ} → InExpr d k p ms → EndExpr k
end_expr (i_unary {d = d} {k = k} {op = op} t u i) = pops_expr (f_unary d t op) k (omega arith) (end_expr i)
end_expr (i_cast {d = d} {k = k} {to = to} o c e f y i) = pops_expr (f_cast d o to) k (omega arith) (end_expr i)
end_expr (i_binary {d = d} {k = k} {x = x} t o e g i) = pops_expr (f_binary d x t) k (omega (arith, o.low)) (end_expr i)
end_expr (i_else {d = d} {k = k} {c = c} {x = x} q r e f g h l i) = pops_expr (f_else d c x) k (omega arith) (end_expr i)
end_expr (i_round {d = d} {k = k} o e i) =
    let h = end_expr i in
    closed_by (f_round d o) k (any close_round) h.tokens closer_power.1 refl (d + 1) (λ f v. have d (p_round o v (any close_round)) k) (λ f v. refl) (λ f v. h.closes d _)
end_expr (i_index {d = d} {k = k} {x = x} o e f i) =
    let h = end_expr i in
    closed_by (f_index d x) k (any close_square) h.tokens close_power.0 refl (d + (before 26 x + 1)) (λ f v. have d (p_index x v (any close_square)) k) (λ f v. refl) (λ f v. h.closes d _)
end_expr (i_range {d = d} {k = k} {x = x} {y = y} o r e f g h i) = end_range d x y k (end_expr i)
end_expr (i_then {d = d} {k = k} {c = c} q e f g i) = end_else d c k (end_expr i)
end_expr (i_x {d = d} {k = k} x o e f i) =
    let h = end_place i in
    closed_by (f_x d x) k (any close_square) h.tokens close_power.0 refl (d + 1) (λ e v. placed (place_x x v (any close_square)) k) (λ e v. refl) (λ e v. h.closes _)
end_expr (i_mem {d = d} {k = k} x o e f i) =
    let h = end_place i in
    closed_by (f_mem d x) k (any close_square) h.tokens close_power.0 refl (d + 1) (λ e v. placed (place_mem x v (any close_square)) k) (λ e v. refl) (λ e v. h.closes _)
end_expr (i_mem_range {d = d} {k = k} {v = y} x o r e f g w i) =
    let h = end_place i in
    closed_by (f_mem_range d x y) k (any close_square) h.tokens close_power.0 refl (d + 1) (λ e v. placed (place_mem_range x y v (any close_square)) k) (λ e v. refl) (λ e v. h.closes _)
end_expr (i_set {d = d} {k = k} {l = l} {op = op} t e f i) = end_set d l op k (end_assign i)
end_expr (i_value {k = k} {t = t} {n = n} e f i) =
    let h = end_named i in
    closed_by (f_value t n) k (any semicolon) h.tokens closer_power.0 refl h.nesting (λ e v. h.next (Some v)) (λ e v. h.goes (Some v)) (λ e v. h.closes (Some v))
end_expr (i_if {d = d} {k = k} t o e f i) =
    let h = end_stmt i in
    closed_by (f_if d t) k (any close_round) (any semicolon ∷ h.tokens) closer_power.1 refl (d + 1) (λ e v. stmt (d + 1) (f_branch d t v ∷ k)) (λ e v. refl)
    (λ e v. closes_stmt (d + 1) (f_branch d t v ∷ k) (pops (f_branch d t v) k (omega arith) h))
end_expr (i_start {d = d} {k = k} {t = f} {y = y} {n = n} h i) = end_start d f y n k (end_stmt i)
end_expr (i_test {d = d} {k = k} {t = f} {y = y} {n = n} {v = v} h i) = end_test d f y n v k (end_stmt i)
end_expr (i_entries {r = r} {w = w} {xs = xs} i) = end_entries r w xs

-- ---- what follows a type
pub record EndType (k : Stack) : Type 0 where
  pub tokens : List Token
  pub closes : (y : TypeText) → Closes (typed y k) tokens

pub entry_tokens : List Token
entry_tokens = a_name ∷ any close_brace ∷ any semicolon ∷ any close_brace ∷ any close_brace ∷ []

pub closes_table : (k : NamedState) → Closes (table_length k) (a_number ∷ any close_square ∷ any equals ∷ any open_brace ∷ entry_tokens)
unfolding step entry_tokens
closes_table k =
    let z = want 0 (f_entries k 0 [] ∷ []) in
    by_step (table_length k) a_number _ 1 (fixed 1 close_square [] (fixed 0 equals (open_brace ∷ []) z)) refl
    (by_step (fixed 1 close_square [] (fixed 0 equals (open_brace ∷ []) z)) (any close_square) _ 1 (fixed 0 equals (open_brace ∷ []) z) refl
    (by_step (fixed 0 equals (open_brace ∷ []) z) (any equals) _ 0 (fixed 0 open_brace [] z) refl
    (by_step (fixed 0 open_brace [] z) (any open_brace) _ 0 z refl
    (closes_want 0 (f_entries k 0 [] ∷ []) _ (end_entries k 0 []).closes))))

pub end_type : {d : ℕ} {k : Stack} {p : List Token} {ms : List ℕ} → InType d k p ms → EndType k
unfolding step
end_type (i_type_cast {d = d} {k = k} o e i) =
    let h = end_expr i in
    record {
      tokens = any close_round ∷ a_name ∷ h.tokens;
      closes = λ y. by_step (typed y (f_type_cast d o ∷ k)) (any close_round) (a_name ∷ h.tokens) (d + 1) (want (d + 1) (f_cast d o (C.Written y) ∷ k)) refl
          (closes_want (d + 1) (f_cast d o (C.Written y) ∷ k) h.tokens (pops_expr (f_cast d o (C.Written y)) k (omega arith) h).closes);
    }
end_type (i_type_locals {d = d} {k = k} i) =
    let h = end_stmt i in
    record {
      tokens = a_name ∷ any semicolon ∷ h.tokens;
      closes = λ y. by_step (typed y (f_type_locals d ∷ k)) a_name (any semicolon ∷ h.tokens) d (named d a_name [] (f_locals d y [] ∷ k)) refl
          (closes_named d a_name [] (f_locals d y [] ∷ k) (end_local d a_name [] y [] k h));
    }
end_type (i_type_loop {d = d} {k = k} f o e g i) =
    let h = end_stmt i in
    record {
      tokens = a_name ∷ any equals ∷ a_name ∷ start_tokens h.tokens;
      closes = λ y. by_step (typed y (f_type_loop d f ∷ k)) a_name (any equals ∷ a_name ∷ start_tokens h.tokens) (d + 1) (for_equals d f (Some y) [] k) refl (closes_for_equals d f (Some y) [] k h);
    }
end_type (i_type_register {r = r} e i) = record {
  tokens = a_name ∷ any semicolon ∷ any close_brace ∷ any close_brace ∷ [];
  closes = λ y.
      let s : NamedState = record { state = r; ty = y; name = [] } in
      by_step (typed y (f_type_register r ∷ [])) a_name _ 0 (named 0 a_name [] (f_register s ∷ [])) refl (closes_named 0 a_name [] (f_register s ∷ []) (end_register a_name s));
}
end_type (i_type_table {r = r} i) = record {
  tokens = a_name ∷ any open_square ∷ a_number ∷ any close_square ∷ any equals ∷ any open_brace ∷ entry_tokens;
  closes = λ y.
      let s : NamedState = record { state = r; ty = y; name = [] } in
      by_step (typed y (f_type_table r ∷ [])) a_name _ 0 (fixed 1 open_square [] (table_length s)) refl
      (by_step (fixed 1 open_square [] (table_length s)) (any open_square) _ 1 (table_length s) refl (closes_table s));
}
