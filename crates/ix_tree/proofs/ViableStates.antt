-- What was read, while the machine has refused nothing, begins a text.
use Rattle.std.proofs.Common.{◌≡◌, ℕ, ◌+◌, List, [], ◌∷◌, Bool, true, refl, arith, None}
use Rattle.ix_tree.specs.declared.token.Token.{Token}
use Rattle.ix_tree.specs.declared.token.TokenKind.{TokenKind}
use Rattle.ix_tree.specs.declared.token.TokenKind.TheVariants.{Text, Sized}
use Rattle.ix_tree.specs.declared.expr.TypeText.{TypeText}
use Rattle.ix_tree.specs.declared.expr.TypeKind.TheVariants as T
use Rattle.ix_tree.specs.Tokens.{instruction_set, extends_word, rv32i_word, behavior_word, int_word, open_brace, close_brace, open_square, close_square, open_round, close_round, semicolon, colon, equals, less, greater}
use Rattle.ix_tree.specs.Trees.{Place, StmtTree, BlockTree, SectionTree}
use Rattle.ix_tree.specs.Productions.{bit_type, zero_bit, type_text, place_name, Done, d_block, fixed_piece, field_piece}
use Rattle.ix_tree.specs.Machine.{Open, OpenInstr, NamedState, OpenAlways, f_cast, f_round, f_x, f_mem, f_type_register, f_locals, f_if, f_behavior, f_always, Stack, State, want, have, opened, cast_word, typing, type_less, type_width, type_greater, typed, placing, x_square, mem_square, placed, assigned, naming, named, stmt, item, done, if_round, for_round, for_head, for_equals, assigning, fixed, starting, set_name, sections, state_word, table_length, piece, piece_square, piece_high, piece_colon, piece_low, piece_end, piece_next, after_pieces, assembly_text, assembly_more, assembly_next, always_brace, go, is, sized_type, bare_cast, more_pieces, behavior, after_assembly, next_fixed, step}
use Rattle.ix_tree.specs.Parsing.{Begins}
use Rattle.ix_tree.proofs.Reached.{i_plain, in_decls, InExpr, i_round, i_x, i_mem, i_if, i_type_register, Reached, r_want, r_have, r_opened, r_cast_word, r_typing, r_type_less, r_type_width, r_type_greater, r_typed, r_placing, r_x_square, r_mem_square, r_placed, r_assigned, r_naming, r_named, r_stmt, r_item, r_item_always, r_done, r_done_always, r_if_round, r_for_round, r_for_head, r_for_equals, r_assigning, r_fixed, r_starting, r_set_name, r_sections, r_ended, r_states, r_instructions, r_blocks, r_state_word, r_table_length, r_table_end, r_piece, r_piece_square, r_piece_high, r_piece_colon, r_piece_low, r_piece_end, r_piece_next, r_after_pieces, r_assembly_text, r_assembly_more, r_assembly_next, r_always_brace}
use Rattle.ix_tree.proofs.KeptSteps.{reached_by, ends_text}
use Rattle.ix_tree.proofs.Walks.{Walks, same_count}
use Rattle.ix_tree.proofs.Viable.{any, a_name, a_number, of_name, Closes, Closing, first_step, closes_ended, closes_sections, closes_states, closes_instructions, closes_blocks, closes_done_always, EndStmt, end_behavior, end_stmt, closes_stmt, end_assign, closes_want, pops_expr, EndPlace, end_place, end_local, end_named, closes_named, start_tokens, closes_for_equals, closes_table_end, end_expr, EndType, entry_tokens, closes_table, end_type}

-- ---- expressions, types and places
want_closing : {d : ℕ} {k : Stack} {p : List Token} {ms : List ℕ} → InExpr d k p ms → Closing (want d k)
want_closing {d} {k} i = let h = end_expr i in record { tokens = a_name ∷ h.tokens; closes = closes_want d k h.tokens h.closes }

typed_closing : {k : Stack} → EndType k → (y : TypeText) → Closing (typed y k)
typed_closing h y = record { tokens = h.tokens; closes = h.closes y }

placed_closing : {k : Stack} → EndPlace k → (l : Place) → Closing (placed l k)
placed_closing h l = record { tokens = h.tokens; closes = h.closes l }

greater_closing : (d : ℕ) (s : Token) (signed : Bool) (w : ℕ) (k : Stack) → EndType k → Closing (type_greater d s signed w k)
unfolding step
greater_closing d s signed w k h = first_step (type_greater d s signed w k) (any greater) d (typed (type_text s (any greater) (sized_type signed w)) k) refl (typed_closing h _)

width_closing : (d : ℕ) (s : Token) (signed : Bool) (k : Stack) → EndType k → Closing (type_width d s signed k)
unfolding step
width_closing d s signed k h = first_step (type_width d s signed k) a_number d (type_greater d s signed 0 k) refl (greater_closing d s signed 0 k h)

less_closing : (d : ℕ) (s : Token) (signed : Bool) (k : Stack) → EndType k → Closing (type_less d s signed k)
unfolding step
less_closing d s signed k h = first_step (type_less d s signed k) (any less) d (type_width d s signed k) refl (width_closing d s signed k h)

-- ---- statements
head_closing : (d : ℕ) (f : Token) (k : Stack) → EndStmt k → Closing (for_head d f k)
unfolding step
head_closing d f k h =
    first_step (for_head d f k) a_name (d + 1) (for_equals d f None [] k) refl (record { tokens = any equals ∷ a_name ∷ start_tokens h.tokens; closes = closes_for_equals d f None [] k h })

item_closing : (d : ℕ) (o : Token) (ss : List StmtTree) (k : Stack) (ts : List Token) → ((s : Done) → Closes (done s k) ts) → Closing (item d o ss k)
unfolding step
item_closing d o ss k ts h = first_step (item d o ss k) (any close_brace) d (done (d_block o ss (any close_brace)) k) refl (record { tokens = ts; closes = h _ })

-- ---- instructions
body_closing : (i : OpenInstr) → Closing (stmt 0 (f_behavior i ∷ []))
body_closing i = let h = end_behavior i in record { tokens = any semicolon ∷ h.tokens; closes = closes_stmt 0 (f_behavior i ∷ []) h }

behavior_closing : (i : OpenInstr) → Closing (behavior i)
unfolding step
behavior_closing i = first_step (behavior i) (any colon) 0 (stmt 0 (f_behavior i ∷ [])) refl (body_closing i)

tail_closing : (i : OpenInstr) → Closing (fixed 0 semicolon (behavior_word ∷ colon ∷ []) (stmt 0 (f_behavior i ∷ [])))
unfolding step
tail_closing i =
    first_step (fixed 0 semicolon (behavior_word ∷ colon ∷ []) (stmt 0 (f_behavior i ∷ []))) (any semicolon) 0 (fixed 0 behavior_word (colon ∷ []) (stmt 0 (f_behavior i ∷ []))) refl
    (first_step (fixed 0 behavior_word (colon ∷ []) (stmt 0 (f_behavior i ∷ []))) (any behavior_word) 0 (behavior i) refl (behavior_closing i))

after_closing : (i : OpenInstr) → Closing (after_pieces i)
unfolding step
after_closing i = first_step (after_pieces i) (any behavior_word) 0 (behavior i) refl (behavior_closing i)

next_closing : (i : OpenInstr) → Closing (piece_next i)
unfolding step
next_closing i = first_step (piece_next i) (any semicolon) 0 (after_pieces i) refl (after_closing i)

piece_closing : (i : OpenInstr) → Closing (piece i)
unfolding step
piece_closing i =
    first_step (piece i) (any (Sized bit_type zero_bit)) 0 (piece_next (more_pieces i (fixed_piece (any (Sized bit_type zero_bit)) zero_bit))) refl (next_closing _)

end_closing : (i : OpenInstr) (f : Token) (n : List ℕ) (hi lo : ℕ) → Closing (piece_end i f n hi lo)
unfolding step
end_closing i f n hi lo = first_step (piece_end i f n hi lo) (any close_square) 1 (piece_next (more_pieces i (field_piece f n hi lo (any close_square)))) refl (next_closing _)

low_closing : (i : OpenInstr) (f : Token) (n : List ℕ) (hi : ℕ) → Closing (piece_low i f n hi)
unfolding step
low_closing i f n hi = first_step (piece_low i f n hi) a_number 1 (piece_end i f n hi 0) refl (end_closing i f n hi 0)

colon_closing : (i : OpenInstr) (f : Token) (n : List ℕ) (hi : ℕ) → Closing (piece_colon i f n hi)
unfolding step
colon_closing i f n hi = first_step (piece_colon i f n hi) (any colon) 1 (piece_low i f n hi) refl (low_closing i f n hi)

high_closing : (i : OpenInstr) (f : Token) (n : List ℕ) → Closing (piece_high i f n)
unfolding step
high_closing i f n = first_step (piece_high i f n) a_number 1 (piece_colon i f n 0) refl (colon_closing i f n 0)

square_closing : (i : OpenInstr) (f : Token) (n : List ℕ) → Closing (piece_square i f n)
unfolding step
square_closing i f n = first_step (piece_square i f n) (any open_square) 1 (piece_high i f n) refl (high_closing i f n)

text_closing : (i : OpenInstr) → Closing (assembly_text i)
unfolding step after_assembly
text_closing i = first_step (assembly_text i) (any Text) 0 (fixed 0 semicolon (behavior_word ∷ colon ∷ []) (stmt 0 (f_behavior i ∷ []))) refl (tail_closing i)

texts_closing : (i : OpenInstr) → Closing (assembly_next i)
unfolding step
texts_closing i = first_step (assembly_next i) (any close_brace) 0 (fixed 0 semicolon (behavior_word ∷ colon ∷ []) (stmt 0 (f_behavior i ∷ []))) refl (tail_closing i)

comma_closing : (i : OpenInstr) → Closing (assembly_more i)
unfolding step
comma_closing i = first_step (assembly_more i) (any Text) 0 (assembly_next i) refl (texts_closing i)

-- ---- sections
sections_closing : (f : Token) (n : List ℕ) (xs : List SectionTree) → Closing (sections f n xs)
sections_closing f n xs = record { tokens = any close_brace ∷ []; closes = closes_sections f n xs }

name_closing : (f : Token) → Closing (set_name f)
unfolding step
name_closing f =
    first_step (set_name f) a_name 0 (fixed 0 extends_word (rv32i_word ∷ open_brace ∷ []) (sections f [] [])) refl
    (first_step (fixed 0 extends_word (rv32i_word ∷ open_brace ∷ []) (sections f [] [])) (any extends_word) 0 (fixed 0 rv32i_word (open_brace ∷ []) (sections f [] [])) refl
    (first_step (fixed 0 rv32i_word (open_brace ∷ []) (sections f [] [])) (any rv32i_word) 0 (fixed 0 open_brace [] (sections f [] [])) refl
    (first_step (fixed 0 open_brace [] (sections f [] [])) (any open_brace) 0 (sections f [] []) refl (sections_closing f [] []))))

starting_closing : Closing starting
unfolding step
starting_closing = first_step starting (any instruction_set) 0 (set_name (any instruction_set)) refl (name_closing _)

table_closing : (k : NamedState) → Closing (table_length k)
table_closing k = record { tokens = a_number ∷ any close_square ∷ any equals ∷ any open_brace ∷ entry_tokens; closes = closes_table k }

always_closing : (x : OpenAlways) (o : Token) → Closing (item 0 o [] (f_always x ∷ []))
always_closing x o = item_closing 0 o [] (f_always x ∷ []) (any close_brace ∷ any close_brace ∷ []) (closes_done_always x)

brace_closing : (o : Open) (xs : List BlockTree) (f : Token) (n : List ℕ) → Closing (always_brace o xs f n)
unfolding step
brace_closing o xs f n =
    let x : OpenAlways = record { within = o; before = xs; first = f; name = n } in
    first_step (always_brace o xs f n) (any open_brace) 0 (item 0 (any open_brace) [] (f_always x ∷ [])) refl (always_closing x (any open_brace))

fixed_step : (d : ℕ) (kind : TokenKind) (ks : List TokenKind) (z : State) → is kind kind ≡ true → step (fixed d kind ks z) (any kind) ≡ go d (next_fixed d ks z)
unfolding step
fixed_step d kind ks z e = rw e refl

-- ---- all states
pub closing : {s : State} {p : List Token} {ms : List ℕ} → Reached s p ms → Closing s
unfolding step
closing (r_want i) = want_closing i
closing (r_have {d = d} {v = v} w i) = let h = end_expr i in record { tokens = h.tokens; closes = h.closes d v }
closing (r_opened {d = d} {k = k} o e i) =
    let h = end_expr (i_round o e i) in
    first_step (opened d o k) a_name (d + 1) (have (d + 1) of_name (f_round d o ∷ k)) refl (record { tokens = h.tokens; closes = h.closes (d + 1) of_name })
closing (r_cast_word {d = d} {k = k} {signed = signed} o s e u i) =
    let h = end_expr i in
    let c = pops_expr (f_cast d o (bare_cast signed)) k (omega arith) h in
    first_step (cast_word d o s signed k) (any close_round) (d + 1) (want (d + 1) (f_cast d o (bare_cast signed) ∷ k)) refl
    (record { tokens = a_name ∷ h.tokens; closes = closes_want (d + 1) (f_cast d o (bare_cast signed) ∷ k) h.tokens c.closes })
closing (r_typing {d = d} {k = k} i) = first_step (typing d k) (any int_word) d (typed (type_text (any int_word) (any int_word) T.Int) k) refl (typed_closing (end_type i) _)
closing (r_type_less {d = d} {k = k} {signed = signed} s u i) = less_closing d s signed k (end_type i)
closing (r_type_width {d = d} {k = k} {signed = signed} s o u e i) = width_closing d s signed k (end_type i)
closing (r_type_greater {d = d} {k = k} {signed = signed} s o n ty w u e f i) = greater_closing d s signed w.raw k (end_type i)
closing (r_typed {y = y} w i) = typed_closing (end_type i) y
closing (r_placing {d = d} {k = k} i) = first_step (placing d k) a_name d (placed (place_name a_name []) k) refl (placed_closing (end_place i) _)
closing (r_x_square {d = d} {k = k} x e i) = first_step (x_square d x k) (any open_square) (d + 1) (want (d + 1) (f_x d x ∷ k)) refl (want_closing (i_x x (any open_square) e refl i))
closing (r_mem_square {d = d} {k = k} x e i) = first_step (mem_square d x k) (any open_square) (d + 1) (want (d + 1) (f_mem d x ∷ k)) refl (want_closing (i_mem x (any open_square) e refl i))
closing (r_placed {l = l} w i) = placed_closing (end_place i) l
closing (r_assigned {k = k} {a = x} w i) =
    let h = end_assign i in
    first_step (assigned x k) h.closer h.nesting (h.next x) (h.goes x) (record { tokens = h.tokens; closes = h.closes x })
closing (r_naming {d = d} {k = k} {y = y} {xs = xs} (in_decls w m i)) =
    let h = end_stmt i in
    first_step (naming d y xs k) a_name d (named d a_name [] (f_locals d y xs ∷ k)) refl
    (record { tokens = any semicolon ∷ h.tokens; closes = closes_named d a_name [] (f_locals d y xs ∷ k) (end_local d a_name [] y xs k h) })
closing (r_named {d = d} {k = k} {t = t} {n = n} i) = let h = end_named i in record { tokens = any semicolon ∷ h.tokens; closes = closes_named d t n k h }
closing (r_stmt {d = d} {k = k} i) = let h = end_stmt i in record { tokens = any semicolon ∷ h.tokens; closes = closes_stmt d k h }
closing (r_item {d = d} {k = k} {ss = ss} o e w i) = let h = end_stmt i in item_closing d o ss k h.tokens h.closes
closing (r_item_always {a = x} o e f i) = always_closing x o
closing (r_done {s = s} w i) = let h = end_stmt i in record { tokens = h.tokens; closes = h.closes s }
closing (r_done_always {a = x} {s = s} w i) = record { tokens = any close_brace ∷ any close_brace ∷ []; closes = closes_done_always x s }
closing (r_if_round {d = d} {k = k} t e i) = first_step (if_round d t k) (any open_round) (d + 1) (want (d + 1) (f_if d t ∷ k)) refl (want_closing (i_if t (any open_round) e refl i))
closing (r_for_round {d = d} {k = k} t e i) = first_step (for_round d t k) (any open_round) (d + 1) (for_head d t k) refl (head_closing d t k (end_stmt i))
closing (r_for_head {d = d} {k = k} t o e f i) = head_closing d t k (end_stmt i)
closing (r_for_equals {d = d} {k = k} {y = y} {n = n} t o q e f g h i) =
    let r = end_stmt i in record { tokens = any equals ∷ a_name ∷ start_tokens r.tokens; closes = closes_for_equals d t y n k r }
closing (r_assigning {d = d} {k = k} i) = first_step (assigning d k) a_name d (placed (place_name a_name []) k) refl (placed_closing (end_place (i_plain i)) _)
closing (r_fixed {d = d} {kind = kind} {ks = ks} {z = z} e h) = first_step (fixed d kind ks z) (any kind) d (next_fixed d ks z) (fixed_step d kind ks z e) (closing (h (any kind) refl))
closing r_starting = starting_closing
closing (r_set_name f e) = name_closing f
closing (r_sections {t = t} {n = n} {xs = xs} i) = sections_closing t n xs
closing (r_ended {x = x} w) = record { tokens = []; closes = closes_ended x }
closing (r_states {o = o} {xs = xs} i) = record { tokens = any close_brace ∷ any close_brace ∷ []; closes = closes_states o xs }
closing (r_instructions {o = o} {xs = xs} i) = record { tokens = any close_brace ∷ any close_brace ∷ []; closes = closes_instructions o xs }
closing (r_blocks {o = o} {xs = xs} i) = record { tokens = any close_brace ∷ any close_brace ∷ []; closes = closes_blocks o xs }
closing (r_state_word {r = r} e i) =
    first_step (state_word r) (any int_word) 0 (typed (type_text (any int_word) (any int_word) T.Int) (f_type_register r ∷ [])) refl (typed_closing (end_type (i_type_register e i)) _)
closing (r_table_length {k = k} i) = table_closing k
closing (r_table_end {k = k} {w = w} {xs = xs} z e i m) = record { tokens = any semicolon ∷ any close_brace ∷ any close_brace ∷ []; closes = closes_table_end k w xs }
closing (r_piece {i = i} h) = piece_closing i
closing (r_piece_square {i = i} {n = n} t e h) = square_closing i t n
closing (r_piece_high {i = i} {n = n} t o e f h) = high_closing i t n
closing (r_piece_colon {i = i} {n = n} t o l ty hi e f g h) = colon_closing i t n hi.raw
closing (r_piece_low {i = i} {n = n} t o l r ty hi e f g q h) = low_closing i t n hi.raw
closing (r_piece_end {i = i} {n = n} t o l r m ty uy hi lo e f g q u h) = end_closing i t n hi.raw lo.raw
closing (r_piece_next {i = i} h) = next_closing i
closing (r_after_pieces {i = i} h) = after_closing i
closing (r_assembly_text {i = i} x c e f h) = text_closing i
closing (r_assembly_more {i = i} x c o e f g h m) = comma_closing i
closing (r_assembly_next {i = i} x c o e f g h m) = texts_closing i
closing (r_always_brace {o = o} {xs = xs} {n = n} t e i) = brace_closing o xs t n

-- what leads to a state begins a text
pub begins_text : {z : State} {ts : List Token} {ms : List ℕ} → Walks starting ts ms z → Begins ts ms
begins_text {z} {ts} {ms} w =
    let r : Reached z ts ms = reached_by r_starting w in
    let h = closing r in
    record { rest = h.tokens; nestings = h.closes.nestings; tree = h.closes.tree; count = same_count w; is = ends_text z ts h.tokens ms h.closes.nestings h.closes.tree r h.closes.is }
