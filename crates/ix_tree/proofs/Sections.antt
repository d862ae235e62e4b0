-- What derives is read: pieces, instructions, states, always-blocks, sections and the text.
use Rattle.std.proofs.Common.{◌≡◌, ℕ, ◌<◌, List, [], ◌∷◌, ◌++◌, Bool, true, false, cond, refl, ap, sym, ◌∙◌, append_assoc, append-nil, arith}
use Rattle.ix_tree.specs.declared.token.Token.{Token}
use Rattle.ix_tree.specs.declared.token.TokenKind.TheVariants.{Name, Text, Unsized}
use Rattle.ix_bits.specs.declared.number.Ty.{Ty}
use Rattle.ix_bits.specs.declared.number.Bits.{Bits}
use Rattle.ix_tree.specs.declared.expr.TypeText.{TypeText}
use Rattle.ix_tree.specs.declared.section.PieceText.{PieceText}
use Rattle.ix_tree.specs.Tokens.{extends_word, rv32i_word, architectural_state, instructions_word, always_word, register_word, const_word, encoding_word, behavior_word, open_brace, close_brace, open_square, close_square, semicolon, comma, colon, equals, else_word}
use Rattle.ix_tree.specs.Trees.{ExprTree, StateTree, InstrTree, BlockTree, SectionTree, k_states, k_instructions, k_always, TextTree, power}
use Rattle.ix_tree.specs.Productions.{Done, d_block, fixed_piece, field_piece, register_tree, table_tree, instr_tree, always_tree, section_tree, text_tree}
use Rattle.ix_tree.specs.Grammar.{IsType, type_signed, type_unsigned, type_int, type_bool, IsPiece, is_fixed, is_field, IsPieces, last_piece, more_pieces as pieces_more, AreTexts, last_text, more_texts, IsAssembly, no_assembly, one_text, some_texts, IsInstr, is_instr, IsEntries, last_entry, more_entries, IsState, is_register, is_table, is_register_table, IsAlways, is_always, AreMany, no_more, one_more, IsSection, is_states, is_instructions, is_always_section, IsText, is_text}
use Rattle.ix_tree.specs.Machine.{Open, OpenInstr, OpenState, NamedState, OpenAlways, f_type_register, f_type_table, f_register, f_entries, f_behavior, f_always, State, want, typing, typed, named, stmt, item, done, fixed, starting, set_name, sections, ended, states, instructions, blocks, state_word, table_length, table_end, piece, piece_square, piece_high, piece_colon, piece_low, piece_end, piece_next, after_pieces, assembly_text, assembly_more, assembly_next, always_brace, go, is, more_pieces, behavior, begin_section, begin_state, after_assembly, always_done, power_stmt, settle_stmt, act, step, Outcome, accept, then_at, run, marked}
use Rattle.ix_tree.proofs.Steps.{one, same, take_one, join, marked-append, power_is, settle_stmt_stop}
use Rattle.ix_tree.proofs.Expressions.{complete_type}
use Rattle.ix_tree.proofs.Statements.{closed, complete_value, complete_stmt, complete_items}

-- ---- pieces
complete_piece : {ts : List Token} {ms : List ℕ} {x : PieceText} → IsPiece ts ms x → (i : OpenInstr) (rest : List Token)
    → run (piece i) (ts ++ rest) ≡ marked ms (run (piece_next (more_pieces i x)) rest)
unfolding step
complete_piece (is_fixed t ty b a) i rest = one (piece i) t rest 0 (piece_next (more_pieces i (fixed_piece t b))) (rw a refl)
complete_piece (is_field t o h r l c n ty uy hi lo et eo eh er el ec) i rest =
    take_one (piece i) t (o ∷ h ∷ r ∷ l ∷ c ∷ rest) 0 (piece_square i t n) (rw et refl)
    (take_one (piece_square i t n) o (h ∷ r ∷ l ∷ c ∷ rest) 1 (piece_high i t n) (rw eo refl)
    (take_one (piece_high i t n) h (r ∷ l ∷ c ∷ rest) 1 (piece_colon i t n hi.raw) (rw eh refl)
    (take_one (piece_colon i t n hi.raw) r (l ∷ c ∷ rest) 1 (piece_low i t n hi.raw) (rw er refl)
    (take_one (piece_low i t n hi.raw) l (c ∷ rest) 1 (piece_end i t n hi.raw lo.raw) (rw el refl)
    (one (piece_end i t n hi.raw lo.raw) c rest 1 (piece_next (more_pieces i (field_piece t n hi.raw lo.raw c))) (rw ec refl))))))

abbrev with_pieces : OpenInstr → List PieceText → OpenInstr
with_pieces i xs = record i { pieces = i.pieces ++ xs }

complete_pieces : {ts : List Token} {ms : List ℕ} {xs : List PieceText} → IsPieces ts ms xs → (i : OpenInstr) (c : Token) (rest : List Token) → c.kind ≡ semicolon
    → run (piece i) (ts ++ c ∷ rest) ≡ marked ms (then_at 0 (run (after_pieces (with_pieces i xs)) rest))
unfolding step
complete_pieces (last_piece {ms = ms} {x = x} p) i c rest e =
    join ms (complete_piece p i (c ∷ rest)) (one (piece_next (more_pieces i x)) c rest 0 (after_pieces (with_pieces i (x ∷ []))) (rw e refl))
complete_pieces (pieces_more {ts = ts} {us = us} {ms = ms} {ns = ns} {x = x} {xs = xs} t a p q) i c rest e =
    ap (run (piece i)) (append_assoc ts (t ∷ us) (c ∷ rest))
    ∙ join ms (complete_piece p i (t ∷ (us ++ c ∷ rest)))
    (take_one (piece_next (more_pieces i x)) t (us ++ c ∷ rest) 0 (piece (more_pieces i x)) (rw a refl)
    (complete_pieces q (more_pieces i x) c rest e
    ∙ ap (λ (zs : List PieceText). marked ns (then_at 0 (run (after_pieces (record i { pieces = zs })) rest))) (append_assoc i.pieces (x ∷ []) xs)))
    ∙ sym (marked-append ms (0 ∷ ns) (then_at 0 (run (after_pieces (with_pieces i (x ∷ xs))) rest)))

-- ---- how an instruction is written in assembly, and the word that follows
abbrev body : OpenInstr → State
body i = stmt 0 (f_behavior i ∷ [])

abbrev tail_of : OpenInstr → State
tail_of i = fixed 0 semicolon (behavior_word ∷ colon ∷ []) (body i)

complete_tail : (i : OpenInstr) (e b h : Token) (rest : List Token) → e.kind ≡ semicolon → b.kind ≡ behavior_word → h.kind ≡ colon
    → run (tail_of i) (e ∷ b ∷ h ∷ rest) ≡ then_at 0 (then_at 0 (then_at 0 (run (body i) rest)))
unfolding step
complete_tail i e b h rest ee eb eh =
    take_one (tail_of i) e (b ∷ h ∷ rest) 0 (fixed 0 behavior_word (colon ∷ []) (body i)) (rw ee refl)
    (take_one (fixed 0 behavior_word (colon ∷ []) (body i)) b (h ∷ rest) 0 (fixed 0 colon [] (body i)) (rw eb refl)
    (one (fixed 0 colon [] (body i)) h rest 0 (body i) (rw eh refl)))

complete_texts : {ts : List Token} {ms : List ℕ} → AreTexts ts ms → (i : OpenInstr) (z : Token) (rest : List Token) → z.kind ≡ close_brace
    → run (assembly_more i) (ts ++ z ∷ rest) ≡ marked ms (then_at 0 (run (tail_of i) rest))
unfolding step
complete_texts (last_text t a) i z rest e =
    take_one (assembly_more i) t (z ∷ rest) 0 (assembly_next i) (rw a refl) (one (assembly_next i) z rest 0 (tail_of i) (rw e refl))
complete_texts (more_texts {ts = ts} t c a b q) i z rest e =
    take_one (assembly_more i) t (c ∷ ts ++ z ∷ rest) 0 (assembly_next i) (rw a refl)
    (take_one (assembly_next i) c (ts ++ z ∷ rest) 0 (assembly_more i) (rw b refl) (complete_texts q i z rest e))

step_text : (i : OpenInstr) (s : Token) → s.kind ≡ Text → step (assembly_text i) s ≡ go 0 (tail_of i)
unfolding step after_assembly
step_text i s e = rw e refl

step_texts : (i : OpenInstr) (o : Token) → o.kind ≡ open_brace → step (assembly_text i) o ≡ go 0 (assembly_more i)
unfolding step after_assembly
step_texts i o e = rw e refl

complete_assembly : {us : List Token} {js : List ℕ} → IsAssembly us js → (i : OpenInstr) (b h : Token) (rest : List Token) → b.kind ≡ behavior_word → h.kind ≡ colon
    → run (after_pieces i) (us ++ b ∷ h ∷ rest) ≡ marked js (then_at 0 (then_at 0 (run (body i) rest)))
unfolding step
complete_assembly no_assembly i b h rest eb eh =
    take_one (after_pieces i) b (h ∷ rest) 0 (behavior i) (rw eb refl) (one (behavior i) h rest 0 (body i) (rw eh refl))
complete_assembly (one_text a c s e ea ec es ee) i b h rest eb eh =
    take_one (after_pieces i) a (c ∷ s ∷ e ∷ b ∷ h ∷ rest) 0 (fixed 0 colon [] (assembly_text i)) (rw ea refl)
    (take_one (fixed 0 colon [] (assembly_text i)) c (s ∷ e ∷ b ∷ h ∷ rest) 0 (assembly_text i) (rw ec refl)
    (take_one (assembly_text i) s (e ∷ b ∷ h ∷ rest) 0 (tail_of i) (step_text i s es)
    (complete_tail i e b h rest ee eb eh)))
complete_assembly (some_texts {ts = ts} {ms = ms} a c o z e ea ec eo ez ee q) i b h rest eb eh =
    take_one (after_pieces i) a (c ∷ o ∷ (ts ++ z ∷ e ∷ []) ++ b ∷ h ∷ rest) 0 (fixed 0 colon [] (assembly_text i)) (rw ea refl)
    (take_one (fixed 0 colon [] (assembly_text i)) c (o ∷ (ts ++ z ∷ e ∷ []) ++ b ∷ h ∷ rest) 0 (assembly_text i) (rw ec refl)
    (take_one (assembly_text i) o ((ts ++ z ∷ e ∷ []) ++ b ∷ h ∷ rest) 0 (assembly_more i) (step_texts i o eo)
    (ap (run (assembly_more i)) (append_assoc ts (z ∷ e ∷ []) (b ∷ h ∷ rest))
    ∙ join ms (complete_texts q i z (e ∷ b ∷ h ∷ rest) ez) (ap (then_at 0) (complete_tail i e b h rest ee eb eh))
    ∙ sym (marked-append ms (0 ∷ 0 ∷ []) (then_at 0 (then_at 0 (run (body i) rest)))))))

-- ---- instructions
step_body_end : (i : OpenInstr) (s : Done) (c : Token) → c.kind ≡ close_brace
    → step (done s (f_behavior i ∷ [])) c ≡ go 0 (instructions i.within (i.before ++ instr_tree i.first i.name i.pieces s c ∷ []))
unfolding step settle_stmt
step_body_end i s c e = rw e refl

complete_instr : (o : Open) (xs : List InstrTree) {ts : List Token} {ms : List ℕ} {x : InstrTree} (rest : List Token) → IsInstr ts ms x
    → run (instructions o xs) (ts ++ rest) ≡ marked ms (run (instructions o (xs ++ x ∷ [])) rest)
unfolding step
complete_instr w front rest (is_instr {ps = ps} {us = us} {ss = ss} {ks = ks} {js = js} {ms = ms} {xs = xs} {s = s} t o e r q b h c n et eo ee er eq eb eh ec p a u) =
    let i : OpenInstr = record { within = w; before = front; first = t; name = n; pieces = [] } in
    let j : OpenInstr = record { within = w; before = front; first = t; name = n; pieces = xs } in
    let z = run (instructions w (front ++ instr_tree t n xs s c ∷ [])) rest in
    take_one (instructions w front) t _ 0 (fixed 0 open_brace (encoding_word ∷ colon ∷ []) (piece i)) (rw et refl)
    (take_one (fixed 0 open_brace (encoding_word ∷ colon ∷ []) (piece i)) o _ 0 (fixed 0 encoding_word (colon ∷ []) (piece i)) (rw eo refl)
    (take_one (fixed 0 encoding_word (colon ∷ []) (piece i)) e _ 0 (fixed 0 colon [] (piece i)) (rw ee refl)
    (take_one (fixed 0 colon [] (piece i)) r ((ps ++ q ∷ (us ++ b ∷ h ∷ (ss ++ c ∷ []))) ++ rest) 0 (piece i) (rw er refl)
    (ap (run (piece i)) (append_assoc ps (q ∷ (us ++ b ∷ h ∷ (ss ++ c ∷ []))) rest)
    ∙ join ks (complete_pieces p i q ((us ++ b ∷ h ∷ (ss ++ c ∷ [])) ++ rest) eq)
    (ap (then_at 0) (ap (run (after_pieces j)) (append_assoc us (b ∷ h ∷ (ss ++ c ∷ [])) rest)
    ∙ join js (complete_assembly a j b h ((ss ++ c ∷ []) ++ rest) eb eh)
    (ap (λ (q : Outcome). then_at 0 (then_at 0 q)) (ap (run (body j)) (append_assoc ss (c ∷ []) rest)
    ∙ join ms (complete_stmt u (omega arith) (f_behavior j ∷ []) (c ∷ rest) (rw ec (omega arith)))
    (one (done s (f_behavior j ∷ [])) c rest 0 _ (step_body_end j s c ec))
    ∙ sym (marked-append ms (0 ∷ []) z)))
    ∙ sym (marked-append js (0 ∷ 0 ∷ (ms ++ 0 ∷ [])) z)))
    ∙ sym (marked-append ks (0 ∷ (js ++ 0 ∷ 0 ∷ (ms ++ 0 ∷ []))) z)))))

-- ---- registers and tables
complete_entries : {ts : List Token} {ms : List ℕ} {vs : List ExprTree} → IsEntries ts ms vs
    → (r : NamedState) (w : ℕ) (front : List ExprTree) (z : Token) (rest : List Token) → z.kind ≡ close_brace
    → run (want 0 (f_entries r w front ∷ [])) (ts ++ z ∷ rest) ≡ marked ms (then_at 0 (run (table_end r w (front ++ vs)) rest))
unfolding power
complete_entries (last_entry {v = v} p) r w front z rest e =
    closed p (f_entries r w front ∷ []) z 0 rest (table_end r w (front ++ v.tree ∷ [])) (power_is z close_brace e) (omega arith) (rw e refl)
complete_entries (more_entries {ts = ts} {us = us} {ms = ms} {ns = ns} {v = v} {vs = vs} c a p q) r w front z rest e =
    ap (run (want 0 (f_entries r w front ∷ []))) (append_assoc ts (c ∷ us) (z ∷ rest))
    ∙ join ms (closed p (f_entries r w front ∷ []) c 0 (us ++ z ∷ rest) (want 0 (f_entries r w (front ++ v.tree ∷ []) ∷ [])) (power_is c comma a) (omega arith) (rw a refl))
    (ap (then_at 0) (complete_entries q r w (front ++ v.tree ∷ []) z rest e
    ∙ ap (λ (zs : List ExprTree). marked ns (then_at 0 (run (table_end r w zs) rest))) (append_assoc front (v.tree ∷ []) vs)))
    ∙ sym (marked-append ms (0 ∷ ns) (then_at 0 (run (table_end r w (front ++ v.tree ∷ vs)) rest)))

step_register : (o : Open) (xs : List StateTree) (r : Token) → r.kind ≡ register_word
    → step (states o xs) r ≡ go 0 (state_word (record { within = o; before = xs; first = r }))
unfolding step begin_state
step_register o xs r e = rw e refl

step_const : (o : Open) (xs : List StateTree) (r : Token) → r.kind ≡ const_word
    → step (states o xs) r ≡ go 0 (typing 0 (f_type_table (record { within = o; before = xs; first = r }) ∷ []))
unfolding step begin_state
step_const o xs r e = rw e refl

register_type : {ts : List Token} {ms : List ℕ} {y : TypeText} → IsType 0 ts ms y → (r : OpenState) (rest : List Token)
    → run (state_word r) (ts ++ rest) ≡ run (typing 0 (f_type_register r ∷ [])) (ts ++ rest)
unfolding step
register_type (type_signed t o n c ty w a b e f) r rest = same (state_word r) (typing 0 (f_type_register r ∷ [])) t (o ∷ n ∷ c ∷ rest) (rw a refl)
register_type (type_unsigned t o n c ty w a b e f) r rest = same (state_word r) (typing 0 (f_type_register r ∷ [])) t (o ∷ n ∷ c ∷ rest) (rw a refl)
register_type (type_int t a) r rest = same (state_word r) (typing 0 (f_type_register r ∷ [])) t rest (rw a refl)
register_type (type_bool t a) r rest = same (state_word r) (typing 0 (f_type_register r ∷ [])) t rest (rw a refl)

-- from a table's name on
complete_table : (r : OpenState) (y : TypeText) {vs : List Token} {ms : List ℕ} {xs : List ExprTree} (t o l q e b z c : Token) (n : List ℕ) (ty : Ty) (w : Bits) (rest : List Token)
    → t.kind ≡ Name n → o.kind ≡ open_square → l.kind ≡ Unsized ty w → q.kind ≡ close_square → e.kind ≡ equals → b.kind ≡ open_brace → z.kind ≡ close_brace → c.kind ≡ semicolon
    → IsEntries vs ms xs
    → run (typed y (f_type_table r ∷ [])) (t ∷ o ∷ l ∷ q ∷ e ∷ b ∷ (vs ++ z ∷ c ∷ []) ++ rest)
    ≡ marked (0 ∷ 1 ∷ 1 ∷ 1 ∷ 0 ∷ 0 ∷ (ms ++ 0 ∷ 0 ∷ [])) (run (states r.within (r.before ++ table_tree r.first y n w.raw xs c ∷ [])) rest)
unfolding step
complete_table r y {vs} {ms} {xs} t o l q e b z c n ty w rest et eo el eq ee eb ez ec x =
    let k : NamedState = record { state = r; ty = y; name = n } in
    let u = run (states r.within (r.before ++ table_tree r.first y n w.raw xs c ∷ [])) rest in
    let v = want 0 (f_entries k w.raw [] ∷ []) in
    take_one (typed y (f_type_table r ∷ [])) t _ 0 (fixed 1 open_square [] (table_length k)) (rw et refl)
    (take_one (fixed 1 open_square [] (table_length k)) o _ 1 (table_length k) (rw eo refl)
    (take_one (table_length k) l _ 1 (fixed 1 close_square [] (fixed 0 equals (open_brace ∷ []) v)) (rw el refl)
    (take_one (fixed 1 close_square [] (fixed 0 equals (open_brace ∷ []) v)) q _ 1 (fixed 0 equals (open_brace ∷ []) v) (rw eq refl)
    (take_one (fixed 0 equals (open_brace ∷ []) v) e _ 0 (fixed 0 open_brace [] v) (rw ee refl)
    (take_one (fixed 0 open_brace [] v) b ((vs ++ z ∷ c ∷ []) ++ rest) 0 v (rw eb refl)
    (ap (run v) (append_assoc vs (z ∷ c ∷ []) rest)
    ∙ join ms (complete_entries x k w.raw [] z (c ∷ rest) ez) (ap (then_at 0) (one (table_end k w.raw xs) c rest 0 _ (rw ec refl)))
    ∙ sym (marked-append ms (0 ∷ 0 ∷ []) u)))))))

complete_state : (o : Open) (front : List StateTree) {ts : List Token} {ms : List ℕ} {x : StateTree} (rest : List Token) → IsState ts ms x
    → run (states o front) (ts ++ rest) ≡ marked ms (run (states o (front ++ x ∷ [])) rest)
unfolding step power
complete_state w front rest (is_register {ys = ys} {vs = vs} {ks = ks} {ms = ms} {y = y} {v = v} r t c n er et ec p q) =
    let s : OpenState = record { within = w; before = front; first = r } in
    let k : NamedState = record { state = s; ty = y; name = n } in
    let z = run (states w (front ++ register_tree r y n v c ∷ [])) rest in
    take_one (states w front) r ((ys ++ t ∷ (vs ++ c ∷ [])) ++ rest) 0 (state_word s) (step_register w front r er)
    (ap (run (state_word s)) (append_assoc ys (t ∷ (vs ++ c ∷ [])) rest)
    ∙ register_type p s (t ∷ (vs ++ c ∷ []) ++ rest)
    ∙ join ks (complete_type p (f_type_register s ∷ []) (t ∷ (vs ++ c ∷ []) ++ rest))
    (take_one (typed y (f_type_register s ∷ [])) t ((vs ++ c ∷ []) ++ rest) 0 (named 0 t n (f_register k ∷ [])) (rw et refl)
    (ap (run (named 0 t n (f_register k ∷ []))) (append_assoc vs (c ∷ []) rest)
    ∙ complete_value q t n (f_register k ∷ []) c 0 rest _ (rw ec refl) (power_is c semicolon ec) (rw ec refl)
    ∙ sym (marked-append ms (0 ∷ []) z)))
    ∙ sym (marked-append ks (0 ∷ (ms ++ 0 ∷ [])) z))
complete_state w front rest (is_table {ys = ys} {vs = vs} {ks = ks} {ms = ms} {y = y} {xs = xs} r t o l q e b z c n ty v er et eo el eq ee eb ez ec p x) =
    let s : OpenState = record { within = w; before = front; first = r } in
    take_one (states w front) r ((ys ++ t ∷ o ∷ l ∷ q ∷ e ∷ b ∷ (vs ++ z ∷ c ∷ [])) ++ rest) 0 (typing 0 (f_type_table s ∷ [])) (step_const w front r er)
    (ap (run (typing 0 (f_type_table s ∷ []))) (append_assoc ys (t ∷ o ∷ l ∷ q ∷ e ∷ b ∷ (vs ++ z ∷ c ∷ [])) rest)
    ∙ join ks (complete_type p (f_type_table s ∷ []) (t ∷ o ∷ l ∷ q ∷ e ∷ b ∷ (vs ++ z ∷ c ∷ []) ++ rest))
    (complete_table s y t o l q e b z c n ty v rest et eo el eq ee eb ez ec x)
    ∙ sym (marked-append ks (0 ∷ 1 ∷ 1 ∷ 1 ∷ 0 ∷ 0 ∷ (ms ++ 0 ∷ 0 ∷ [])) (run (states w (front ++ table_tree r y n v.raw xs c ∷ [])) rest)))
complete_state w front rest (is_register_table {ys = ys} {vs = vs} {ks = ks} {ms = ms} {y = y} {xs = xs} r k t o l q e b z c n ty v er ek et eo el eq ee eb ez ec p x) =
    let s : OpenState = record { within = w; before = front; first = r } in
    take_one (states w front) r (k ∷ (ys ++ t ∷ o ∷ l ∷ q ∷ e ∷ b ∷ (vs ++ z ∷ c ∷ [])) ++ rest) 0 (state_word s) (step_register w front r er)
    (take_one (state_word s) k ((ys ++ t ∷ o ∷ l ∷ q ∷ e ∷ b ∷ (vs ++ z ∷ c ∷ [])) ++ rest) 0 (typing 0 (f_type_table s ∷ [])) (rw ek refl)
    (ap (run (typing 0 (f_type_table s ∷ []))) (append_assoc ys (t ∷ o ∷ l ∷ q ∷ e ∷ b ∷ (vs ++ z ∷ c ∷ [])) rest)
    ∙ join ks (complete_type p (f_type_table s ∷ []) (t ∷ o ∷ l ∷ q ∷ e ∷ b ∷ (vs ++ z ∷ c ∷ []) ++ rest))
    (complete_table s y t o l q e b z c n ty v rest et eo el eq ee eb ez ec x)
    ∙ sym (marked-append ks (0 ∷ 1 ∷ 1 ∷ 1 ∷ 0 ∷ 0 ∷ (ms ++ 0 ∷ 0 ∷ [])) (run (states w (front ++ table_tree r y n v.raw xs c ∷ [])) rest))))

-- ---- always-blocks
positive : (b : Bool) → 0 < cond b 2 1
positive true = omega arith
positive false = omega arith

always_same : (a : OpenAlways) (s : Done) (t : Token) → step (done s (f_always a ∷ [])) t ≡ step (blocks a.within (a.before ++ always_done a s ∷ [])) t
unfolding step
always_same a s t = ap (act t) (settle_stmt_stop (power_stmt t.kind) s (f_always a) [] (positive (is t.kind else_word)))

always_is : (a : OpenAlways) (s : Done) (ts : List Token) → run (done s (f_always a ∷ [])) ts ≡ run (blocks a.within (a.before ++ always_done a s ∷ [])) ts
unfolding run
always_is a s [] = refl
always_is a s (t ∷ ts) = same (done s (f_always a ∷ [])) (blocks a.within (a.before ++ always_done a s ∷ [])) t ts (always_same a s t)

complete_always : (w : Open) (front : List BlockTree) {ts : List Token} {ms : List ℕ} {x : BlockTree} (rest : List Token) → IsAlways ts ms x
    → run (blocks w front) (ts ++ rest) ≡ marked ms (run (blocks w (front ++ x ∷ [])) rest)
unfolding step
complete_always w front rest (is_always {ts = ts} {ms = ms} {ss = ss} t o c n et eo ec u) =
    let a : OpenAlways = record { within = w; before = front; first = t; name = n } in
    take_one (blocks w front) t (o ∷ (ts ++ c ∷ []) ++ rest) 0 (always_brace w front t n) (rw et refl)
    (take_one (always_brace w front t n) o ((ts ++ c ∷ []) ++ rest) 0 (item 0 o [] (f_always a ∷ [])) (rw eo refl)
    (ap (run (item 0 o [] (f_always a ∷ []))) (append_assoc ts (c ∷ []) rest)
    ∙ join ms (complete_items 0 u refl o [] (f_always a ∷ []) c rest ec) (ap (then_at 0) (always_is a (d_block o ss c) rest))
    ∙ sym (marked-append ms (0 ∷ []) (run (blocks w (front ++ always_tree t n o ss c ∷ [])) rest))))

-- ---- sections
complete_many : {X : Type 0} {Is : List Token → List ℕ → X → Type 0} (s : List X → State)
    → ((front : List X) (ts : List Token) (ms : List ℕ) (x : X) (rest : List Token) → Is ts ms x → run (s front) (ts ++ rest) ≡ marked ms (run (s (front ++ x ∷ [])) rest))
    → {ts : List Token} {ms : List ℕ} {xs : List X} → AreMany Is ts ms xs → (front : List X) (rest : List Token)
    → run (s front) (ts ++ rest) ≡ marked ms (run (s (front ++ xs)) rest)
complete_many s each no_more front rest = ap (λ (zs : List _). run (s zs) rest) (sym (append-nil front))
complete_many s each (one_more {ts = ts} {us = us} {ms = ms} {ns = ns} {x = x} {xs = xs} p q) front rest =
    ap (run (s front)) (append_assoc ts us rest)
    ∙ join ms (each front ts ms x (us ++ rest) p)
    (complete_many s each q (front ++ x ∷ []) rest ∙ ap (λ (zs : List _). marked ns (run (s zs) rest)) (append_assoc front (x ∷ []) xs))
    ∙ sym (marked-append ms ns (run (s (front ++ x ∷ xs)) rest))

abbrev opening : Token → List ℕ → List SectionTree → Token → Open
opening f n xs w = record { first = f; name = n; sections = xs; word = w }

step_states : (f : Token) (n : List ℕ) (xs : List SectionTree) (w : Token) → w.kind ≡ architectural_state
    → step (sections f n xs) w ≡ go 0 (fixed 0 open_brace [] (states (opening f n xs w) []))
unfolding step begin_section
step_states f n xs w e = rw e refl

step_instructions : (f : Token) (n : List ℕ) (xs : List SectionTree) (w : Token) → w.kind ≡ instructions_word
    → step (sections f n xs) w ≡ go 0 (fixed 0 open_brace [] (instructions (opening f n xs w) []))
unfolding step begin_section
step_instructions f n xs w e = rw e refl

step_always : (f : Token) (n : List ℕ) (xs : List SectionTree) (w : Token) → w.kind ≡ always_word
    → step (sections f n xs) w ≡ go 0 (fixed 0 open_brace [] (blocks (opening f n xs w) []))
unfolding step begin_section
step_always f n xs w e = rw e refl

step_end : (f : Token) (n : List ℕ) (xs : List SectionTree) (c : Token) → c.kind ≡ close_brace → step (sections f n xs) c ≡ go 0 (ended (text_tree f n xs c))
unfolding step begin_section
step_end f n xs c e = rw e refl

step_end_states : (o : Open) (xs : List StateTree) (c : Token) → c.kind ≡ close_brace
    → step (states o xs) c ≡ go 0 (sections o.first o.name (o.sections ++ section_tree o.word (k_states xs) c ∷ []))
unfolding step begin_state
step_end_states o xs c e = rw e refl

complete_section : (f : Token) (n : List ℕ) (front : List SectionTree) {ts : List Token} {ms : List ℕ} {x : SectionTree} (rest : List Token) → IsSection ts ms x
    → run (sections f n front) (ts ++ rest) ≡ marked ms (run (sections f n (front ++ x ∷ [])) rest)
unfolding step
complete_section f n front rest (is_states {ts = ts} {ms = ms} {xs = xs} w o c ew eo ec p) =
    let k = opening f n front w in
    take_one (sections f n front) w (o ∷ (ts ++ c ∷ []) ++ rest) 0 (fixed 0 open_brace [] (states k [])) (step_states f n front w ew)
    (take_one (fixed 0 open_brace [] (states k [])) o ((ts ++ c ∷ []) ++ rest) 0 (states k []) (rw eo refl)
    (ap (run (states k [])) (append_assoc ts (c ∷ []) rest)
    ∙ join ms (complete_many (states k) (λ zs ts ms x rest q. complete_state k zs rest q) p [] (c ∷ rest)) (one (states k xs) c rest 0 _ (step_end_states k xs c ec))
    ∙ sym (marked-append ms (0 ∷ []) (run (sections f n (front ++ section_tree w (k_states xs) c ∷ [])) rest))))
complete_section f n front rest (is_instructions {ts = ts} {ms = ms} {xs = xs} w o c ew eo ec p) =
    let k = opening f n front w in
    take_one (sections f n front) w (o ∷ (ts ++ c ∷ []) ++ rest) 0 (fixed 0 open_brace [] (instructions k [])) (step_instructions f n front w ew)
    (take_one (fixed 0 open_brace [] (instructions k [])) o ((ts ++ c ∷ []) ++ rest) 0 (instructions k []) (rw eo refl)
    (ap (run (instructions k [])) (append_assoc ts (c ∷ []) rest)
    ∙ join ms (complete_many (instructions k) (λ zs ts ms x rest q. complete_instr k zs rest q) p [] (c ∷ rest)) (one (instructions k xs) c rest 0 _ (rw ec refl))
    ∙ sym (marked-append ms (0 ∷ []) (run (sections f n (front ++ section_tree w (k_instructions xs) c ∷ [])) rest))))
complete_section f n front rest (is_always_section {ts = ts} {ms = ms} {xs = xs} w o c ew eo ec p) =
    let k = opening f n front w in
    take_one (sections f n front) w (o ∷ (ts ++ c ∷ []) ++ rest) 0 (fixed 0 open_brace [] (blocks k [])) (step_always f n front w ew)
    (take_one (fixed 0 open_brace [] (blocks k [])) o ((ts ++ c ∷ []) ++ rest) 0 (blocks k []) (rw eo refl)
    (ap (run (blocks k [])) (append_assoc ts (c ∷ []) rest)
    ∙ join ms (complete_many (blocks k) (λ zs ts ms x rest q. complete_always k zs rest q) p [] (c ∷ rest)) (one (blocks k xs) c rest 0 _ (rw ec refl))
    ∙ sym (marked-append ms (0 ∷ []) (run (sections f n (front ++ section_tree w (k_always xs) c ∷ [])) rest))))

ended_is : (x : TextTree) → run (ended x) [] ≡ accept x
unfolding run
ended_is x = refl

-- all that derives is accepted, with its tree and the nestings of its tokens
pub accepted : {ts : List Token} {ms : List ℕ} {x : TextTree} → IsText ts ms x → run starting ts ≡ marked ms (accept x)
unfolding step
accepted (is_text {ts = ts} {ms = ms} {xs = xs} t i e r o c n et ei ee er eo ec p) =
    take_one starting t (i ∷ e ∷ r ∷ o ∷ (ts ++ c ∷ [])) 0 (set_name t) (rw et refl)
    (take_one (set_name t) i (e ∷ r ∷ o ∷ (ts ++ c ∷ [])) 0 (fixed 0 extends_word (rv32i_word ∷ open_brace ∷ []) (sections t n [])) (rw ei refl)
    (take_one (fixed 0 extends_word (rv32i_word ∷ open_brace ∷ []) (sections t n [])) e (r ∷ o ∷ (ts ++ c ∷ [])) 0 (fixed 0 rv32i_word (open_brace ∷ []) (sections t n [])) (rw ee refl)
    (take_one (fixed 0 rv32i_word (open_brace ∷ []) (sections t n [])) r (o ∷ (ts ++ c ∷ [])) 0 (fixed 0 open_brace [] (sections t n [])) (rw er refl)
    (take_one (fixed 0 open_brace [] (sections t n [])) o (ts ++ c ∷ []) 0 (sections t n []) (rw eo refl)
    (join ms (complete_many (sections t n) (λ zs ts ms x rest q. complete_section t n zs rest q) p [] (c ∷ []))
    (take_one (sections t n xs) c [] 0 (ended (text_tree t n xs c)) (step_end t n xs c ec) (ended_is (text_tree t n xs c)))
    ∙ sym (marked-append ms (0 ∷ []) (accept (text_tree t n xs c))))))))
