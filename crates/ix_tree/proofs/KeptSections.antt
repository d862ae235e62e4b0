-- What a step keeps at sections.
use Rattle.std.proofs.Common.{◌≡◌, ℕ, List, [], ◌∷◌, ◌++◌, refl, sym, ◌∙◌, append_assoc, append-nil, subst}
use Rattle.ix_bits.specs.declared.number.Ty.{Ty}
use Rattle.ix_bits.specs.declared.number.Bits.{Bits}
use Rattle.ix_tree.specs.declared.token.Token.{Token}
use Rattle.ix_tree.specs.declared.token.TokenKind.{TokenKind}
use Rattle.ix_tree.specs.declared.token.TokenKind.TheVariants.{Name, Text, Unsized, Sized}
use Rattle.ix_tree.specs.declared.section.PieceText.{PieceText}
use Rattle.ix_tree.specs.Tokens.{instruction_set, extends_word, rv32i_word, architectural_state, instructions_word, always_word, register_word, const_word, assembly_word, behavior_word, open_brace, close_brace, open_square, close_square, semicolon, comma, colon, double_colon, equals}
use Rattle.ix_tree.specs.Trees.{ExprTree, StateTree, InstrTree, BlockTree, k_instructions, SectionTree}
use Rattle.ix_tree.specs.Productions.{table_tree, section_tree, text_tree}
use Rattle.ix_tree.specs.Grammar.{IsPiece, is_fixed, is_field, IsPieces, last_piece, more_pieces as pieces_more, AreTexts, last_text, more_texts, no_assembly, one_text, some_texts, IsEntries, is_table, is_register_table, AreMany, no_more, one_more, IsText, is_text}
use Rattle.ix_tree.specs.Machine.{Open, OpenInstr, OpenState, NamedState, f_entries, want, fixed, starting, set_name, sections, table_length, table_end, piece_square, piece_high, piece_colon, piece_low, piece_end, piece_next, after_pieces, assembly_text, assembly_more, assembly_next, always_brace, only, is, after_section, begin_section, begin_state, after_register, begin_instr, more_pieces, begin_piece, after_assembly, after_comma, width_of, with_number, with_name, act}
use Rattle.ix_tree.proofs.Reached.{Ended, ended_by, TextsBefore, no_texts, text_before, InText, in_text, in_section, InStates, InInstrs, InBlocks, in_const, in_register_const, InTable, in_table, InEntries, in_entries, in_instr, InPieces, in_pieces, OnPiece, on_piece, PastPieces, past_pieces, in_behavior, i_behavior, i_entries, i_type_register, i_type_table, r_want, r_typing, r_stmt, r_item_always, r_fixed, r_set_name, r_sections, r_ended, r_states, r_instructions, r_blocks, r_state_word, r_piece, r_piece_square, r_piece_high, r_piece_colon, r_piece_low, r_piece_end, r_piece_next, r_after_pieces, r_assembly_text, r_assembly_more, r_assembly_next}
use Rattle.ix_tree.proofs.Kept.{Keeps, halts, keeps, recast, moved, goes_to, keep_if, keep_only, same_kind, many_more, section_more}
use Rattle.ix_tree.proofs.KeptPlaces.{keep_type}
use Rattle.ix_tree.proofs.KeptStatements.{states_end, instructions_end}

-- ---- the text
name_at : (f : Token) → f.kind ≡ instruction_set → (t : Token) (kind : TokenKind) → t.kind ≡ kind
    → Keeps (f ∷ []) (0 ∷ []) t (with_name kind 0 (λ n. fixed 0 extends_word (rv32i_word ∷ open_brace ∷ []) (sections f n [])))
name_at f a t (Name n) e = keeps (r_fixed refl (λ x b. r_fixed refl (λ r c. r_fixed refl (λ o h. r_sections (in_text f t x r o n a e b c h no_more)))))
name_at f a t _ e = halts

pub keep_starting : (t : Token) → Keeps [] [] t (act t starting)
keep_starting t = keep_only (is t.kind instruction_set) _ _ (λ e. keeps (r_set_name t (same_kind t.kind instruction_set e)))

pub keep_set_name : (f : Token) → f.kind ≡ instruction_set → (t : Token) → Keeps (f ∷ []) (0 ∷ []) t (act t (set_name f))
keep_set_name f a t = name_at f a t t.kind refl

text_of : {f : Token} {n : List ℕ} {xs : List SectionTree} {p : List Token} {ms : List ℕ} → InText f n xs p ms → (c : Token) → c.kind ≡ close_brace
    → IsText (p ++ c ∷ []) (ms ++ 0 ∷ []) (text_tree f n xs c)
text_of (in_text t i e r o n a b d f g m) c h = is_text t i e r o c n a b d f g h m

pub keep_section : {f : Token} {n : List ℕ} {xs : List SectionTree} {p : List Token} {ms : List ℕ} → InText f n xs p ms → (t : Token) → Keeps p ms t (begin_section f n xs t)
unfolding begin_section
keep_section i t =
    keep_if (is t.kind close_brace) _ _ (λ e. keeps (r_ended (text_of i t (same_kind t.kind close_brace e))))
    (λ a. keep_if (is t.kind architectural_state) _ _
    (λ e. keeps (r_fixed refl (λ o h. moved (r_states (in_section o (same_kind t.kind architectural_state e) h i no_more)) (simp append_assoc) (simp append_assoc))))
    (λ b. keep_if (is t.kind instructions_word) _ _
    (λ e. keeps (r_fixed refl (λ o h. moved (r_instructions (in_section o (same_kind t.kind instructions_word e) h i no_more)) (simp append_assoc) (simp append_assoc))))
    (λ c. keep_only (is t.kind always_word) _ _
    (λ e. keeps (r_fixed refl (λ o h. moved (r_blocks (in_section o (same_kind t.kind always_word e) h i no_more)) (simp append_assoc) (simp append_assoc)))))))

-- ---- registers and tables
pub keep_state : {o : Open} {xs : List StateTree} {p : List Token} {ms : List ℕ} → InStates o xs p ms → (t : Token) → Keeps p ms t (begin_state o xs t)
unfolding begin_state
keep_state i t =
    keep_if (is t.kind close_brace) _ _ (λ e. keeps (r_sections (states_end i t (same_kind t.kind close_brace e))))
    (λ a. keep_if (is t.kind register_word) _ _ (λ e. keeps (r_state_word (same_kind t.kind register_word e) i))
    (λ b. keep_only (is t.kind const_word) _ _ (λ e. keeps (r_typing (i_type_table (in_const (same_kind t.kind const_word e) i))))))

pub keep_state_word : (r : OpenState) {p : List Token} {ms : List ℕ} → r.first.kind ≡ register_word → InStates r.within r.before p ms → (t : Token)
    → Keeps (p ++ r.first ∷ []) (ms ++ 0 ∷ []) t (after_register r t)
keep_state_word r a i t =
    keep_if (is t.kind const_word) _ _
    (λ e. goes_to (r_typing (i_type_table (in_register_const t a (same_kind t.kind const_word e) i))) (simp append_assoc) (simp append_assoc))
    (λ e. keep_type (i_type_register a i) t)

length_at : {k : NamedState} {p : List Token} {ms : List ℕ} → InTable k p ms → (t : Token) (kind : TokenKind) → t.kind ≡ kind
    → Keeps p ms t (with_number (width_of kind) 1 (λ w. fixed 1 close_square [] (fixed 0 equals (open_brace ∷ []) (want 0 (f_entries k w [] ∷ [])))))
length_at i t (Unsized ty w) e =
    keeps (r_fixed refl (λ q eq. r_fixed refl (λ x ex. r_fixed refl (λ b eb.
    moved (r_want (i_entries (in_entries t q x b ty w e eq ex eb i no_more))) (simp append_assoc) (simp append_assoc)))))
length_at i t _ e = halts

pub keep_table_length : {k : NamedState} {p : List Token} {ms : List ℕ} → InTable k p ms → (t : Token) → Keeps p ms t (act t (table_length k))
keep_table_length i t = length_at i t t.kind refl

table_of : {k : NamedState} {w : ℕ} {xs : List ExprTree} {p us : List Token} {ms ns : List ℕ} (z c : Token) → z.kind ≡ close_brace → c.kind ≡ semicolon
    → InEntries k w [] p ms → IsEntries us ns xs
    → InStates k.state.within (k.state.before ++ table_tree k.state.first k.ty k.name w xs c ∷ []) (p ++ (us ++ z ∷ c ∷ [])) (ms ++ (ns ++ 0 ∷ 0 ∷ []))
table_of {xs = xs} z c h u (in_entries l q e b ty w el eq ee eb (in_table {k = k} t o et eo y (in_const a i)) no_more) m =
    recast (InStates k.state.within (k.state.before ++ table_tree k.state.first k.ty k.name w.raw xs c ∷ []))
    (section_more i (is_table k.state.first t o l q e b z c k.name ty w a et eo el eq ee eb h u y m)) (simp append_assoc) (simp append_assoc)
table_of {xs = xs} z c h u (in_entries l q e b ty w el eq ee eb (in_table {k = k} t o et eo y (in_register_const f a g i)) no_more) m =
    recast (InStates k.state.within (k.state.before ++ table_tree k.state.first k.ty k.name w.raw xs c ∷ []))
    (section_more i (is_register_table k.state.first f t o l q e b z c k.name ty w a g et eo el eq ee eb h u y m)) (simp append_assoc) (simp append_assoc)

pub keep_table_end : {k : NamedState} {w : ℕ} {xs : List ExprTree} {p us : List Token} {ms ns : List ℕ} (z : Token) → z.kind ≡ close_brace
    → InEntries k w [] p ms → IsEntries us ns xs → (t : Token)
    → Keeps (p ++ (us ++ z ∷ [])) (ms ++ (ns ++ 0 ∷ [])) t (act t (table_end k w xs))
keep_table_end z a i m t = keep_only (is t.kind semicolon) _ _ (λ e. goes_to (r_states (table_of z t a (same_kind t.kind semicolon e) i m)) (simp append_assoc) (simp append_assoc))

-- ---- pieces
closes_instr : {o : Open} {xs : List InstrTree} {p : List Token} {ms : List ℕ} → InInstrs o xs p ms → (t : Token) (kind : TokenKind) → t.kind ≡ kind
    → Keeps p ms t (only (is kind close_brace) 0 (after_section o (section_tree o.word (k_instructions xs) t)))
closes_instr i t kind e = keep_only (is kind close_brace) _ _ (λ h. keeps (r_sections (instructions_end i t (e ∙ same_kind kind close_brace h))))

instr_at : {o : Open} {xs : List InstrTree} {p : List Token} {ms : List ℕ} → InInstrs o xs p ms → (t : Token) (kind : TokenKind) → t.kind ≡ kind
    → Keeps p ms t (begin_instr o xs t kind)
instr_at i t (Name n) e =
    keeps (r_fixed refl (λ o eo. r_fixed refl (λ x ex. r_fixed refl (λ c ec. moved (r_piece (in_pieces (in_instr t o x c e eo ex ec i) no_more)) (simp (append_assoc, append-nil)) (simp (append_assoc, append-nil))))))
instr_at {o} {xs} i t kind e = closes_instr i t kind e

pub keep_instr : {o : Open} {xs : List InstrTree} {p : List Token} {ms : List ℕ} → InInstrs o xs p ms → (t : Token) → Keeps p ms t (begin_instr o xs t t.kind)
keep_instr i t = instr_at i t t.kind refl

-- a piece, behind those before it
pieces_with : {i : OpenInstr} {p us : List Token} {ms ks : List ℕ} {x : PieceText} → InPieces i p ms → IsPiece us ks x → OnPiece (more_pieces i x) (p ++ us) (ms ++ ks)
pieces_with {i} {x = x} (in_pieces w m) h = recast (OnPiece (more_pieces i x)) (on_piece i.pieces x refl w m h) (simp append_assoc) (simp append_assoc)

piece_at : {i : OpenInstr} {p : List Token} {ms : List ℕ} → InPieces i p ms → (t : Token) (kind : TokenKind) → t.kind ≡ kind → Keeps p ms t (begin_piece i t kind)
piece_at i t (Sized ty b) e = keeps (r_piece_next (pieces_with i (is_fixed t ty b e)))
piece_at i t (Name n) e = keeps (r_piece_square t e i)
piece_at i t _ e = halts

pub keep_piece : {i : OpenInstr} {p : List Token} {ms : List ℕ} → InPieces i p ms → (t : Token) → Keeps p ms t (begin_piece i t t.kind)
keep_piece i t = piece_at i t t.kind refl

pub keep_piece_square : {i : OpenInstr} {p : List Token} {ms : List ℕ} {n : List ℕ} (f : Token) → f.kind ≡ Name n → InPieces i p ms → (t : Token)
    → Keeps (p ++ f ∷ []) (ms ++ 0 ∷ []) t (act t (piece_square i f n))
keep_piece_square f a i t = keep_only (is t.kind open_square) _ _ (λ e. goes_to (r_piece_high f t a (same_kind t.kind open_square e) i) (simp append_assoc) (simp append_assoc))

high_at : {i : OpenInstr} {p : List Token} {ms : List ℕ} {n : List ℕ} (f o : Token) → f.kind ≡ Name n → o.kind ≡ open_square → InPieces i p ms
    → (t : Token) (kind : TokenKind) → t.kind ≡ kind
    → Keeps (p ++ f ∷ o ∷ []) (ms ++ 0 ∷ 1 ∷ []) t (with_number (width_of kind) 1 (λ w. piece_colon i f n w))
high_at f o a b i t (Unsized ty w) e = goes_to (r_piece_colon f o t ty w a b e i) (simp append_assoc) (simp append_assoc)
high_at f o a b i t _ e = halts

pub keep_piece_high : {i : OpenInstr} {p : List Token} {ms : List ℕ} {n : List ℕ} (f o : Token) → f.kind ≡ Name n → o.kind ≡ open_square → InPieces i p ms → (t : Token)
    → Keeps (p ++ f ∷ o ∷ []) (ms ++ 0 ∷ 1 ∷ []) t (act t (piece_high i f n))
keep_piece_high f o a b i t = high_at f o a b i t t.kind refl

pub keep_piece_colon : {i : OpenInstr} {p : List Token} {ms : List ℕ} {n : List ℕ} (f o h : Token) (ty : Ty) (hi : Bits)
    → f.kind ≡ Name n → o.kind ≡ open_square → h.kind ≡ Unsized ty hi → InPieces i p ms → (t : Token)
    → Keeps (p ++ f ∷ o ∷ h ∷ []) (ms ++ 0 ∷ 1 ∷ 1 ∷ []) t (act t (piece_colon i f n hi.raw))
keep_piece_colon f o h ty hi a b c i t =
    keep_only (is t.kind colon) _ _ (λ e. goes_to (r_piece_low f o h t ty hi a b c (same_kind t.kind colon e) i) (simp append_assoc) (simp append_assoc))

low_at : {i : OpenInstr} {p : List Token} {ms : List ℕ} {n : List ℕ} (f o h r : Token) (ty : Ty) (hi : Bits)
    → f.kind ≡ Name n → o.kind ≡ open_square → h.kind ≡ Unsized ty hi → r.kind ≡ colon → InPieces i p ms → (t : Token) (kind : TokenKind) → t.kind ≡ kind
    → Keeps (p ++ f ∷ o ∷ h ∷ r ∷ []) (ms ++ 0 ∷ 1 ∷ 1 ∷ 1 ∷ []) t (with_number (width_of kind) 1 (λ w. piece_end i f n hi.raw w))
low_at f o h r ty hi a b c g i t (Unsized uy w) e = goes_to (r_piece_end f o h r t ty uy hi w a b c g e i) (simp append_assoc) (simp append_assoc)
low_at f o h r ty hi a b c g i t _ e = halts

pub keep_piece_low : {i : OpenInstr} {p : List Token} {ms : List ℕ} {n : List ℕ} (f o h r : Token) (ty : Ty) (hi : Bits)
    → f.kind ≡ Name n → o.kind ≡ open_square → h.kind ≡ Unsized ty hi → r.kind ≡ colon → InPieces i p ms → (t : Token)
    → Keeps (p ++ f ∷ o ∷ h ∷ r ∷ []) (ms ++ 0 ∷ 1 ∷ 1 ∷ 1 ∷ []) t (act t (piece_low i f n hi.raw))
keep_piece_low f o h r ty hi a b c g i t = low_at f o h r ty hi a b c g i t t.kind refl

pub keep_piece_end : {i : OpenInstr} {p : List Token} {ms : List ℕ} {n : List ℕ} (f o h r l : Token) (ty uy : Ty) (hi lo : Bits)
    → f.kind ≡ Name n → o.kind ≡ open_square → h.kind ≡ Unsized ty hi → r.kind ≡ colon → l.kind ≡ Unsized uy lo → InPieces i p ms → (t : Token)
    → Keeps (p ++ f ∷ o ∷ h ∷ r ∷ l ∷ []) (ms ++ 0 ∷ 1 ∷ 1 ∷ 1 ∷ 1 ∷ []) t (act t (piece_end i f n hi.raw lo.raw))
keep_piece_end {n = n} f o h r l ty uy hi lo a b c g k i t =
    keep_only (is t.kind close_square) _ _
    (λ e. goes_to (r_piece_next (pieces_with i (is_field f o h r l t n ty uy hi lo a b c g k (same_kind t.kind close_square e)))) (simp append_assoc) (simp append_assoc))

pieces_of : {ts us : List Token} {ms ns : List ℕ} {x : PieceText} {xs : List PieceText} → AreMany (Ended double_colon 0 IsPiece) ts ms xs → IsPiece us ns x
    → IsPieces (ts ++ us) (ms ++ ns) (xs ++ x ∷ [])
pieces_of no_more h = last_piece h
pieces_of {x = x} (one_more {x = y} {xs = ys} (ended_by c e p) q) h =
    recast (λ (l : List Token) (m : List ℕ). IsPieces l m (y ∷ (ys ++ x ∷ []))) (pieces_more c e p (pieces_of q h)) (simp append_assoc) (simp append_assoc)

pub keep_piece_next : {i : OpenInstr} {p : List Token} {ms : List ℕ} → OnPiece i p ms → (t : Token) → Keeps p ms t (act t (piece_next i))
keep_piece_next (on_piece {i = i} {ts = ts} {us = us} {ns = ns} {ks = ks} xs x e w m h) t =
    keep_if (is t.kind double_colon) _ _
    (λ a. goes_to (r_piece (in_pieces w (subst (λ (l : List PieceText). AreMany (Ended double_colon 0 IsPiece) (ts ++ (us ++ t ∷ [])) (ns ++ (ks ++ 0 ∷ [])) l) (sym e)
    (many_more m (ended_by t (same_kind t.kind double_colon a) h))))) (simp append_assoc) (simp append_assoc))
    (λ a. keep_only (is t.kind semicolon) _ _
    (λ b. goes_to (r_after_pieces (past_pieces t (same_kind t.kind semicolon b) w (subst (λ (l : List PieceText). IsPieces (ts ++ us) (ns ++ ks) l) (sym e) (pieces_of m h))))
    (simp append_assoc) (simp append_assoc)))

-- ---- how an instruction is written in assembly
pub keep_after_pieces : {i : OpenInstr} {p : List Token} {ms : List ℕ} → PastPieces i p ms → (t : Token) → Keeps p ms t (act t (after_pieces i))
keep_after_pieces {i} w t =
    keep_if (is t.kind behavior_word) _ _
    (λ e. keeps (r_fixed refl (λ h eh. moved (r_stmt (i_behavior (in_behavior t h (same_kind t.kind behavior_word e) eh w no_assembly))) (simp append_assoc) (simp append_assoc))))
    (λ a. keep_only (is t.kind assembly_word) _ _
    (λ e. keeps (r_fixed refl (λ c ec. moved (r_assembly_text t c (same_kind t.kind assembly_word e) ec w) (simp append_assoc) (simp append_assoc)))))

opens_texts : {i : OpenInstr} {p : List Token} {ms : List ℕ} (a c : Token) → a.kind ≡ assembly_word → c.kind ≡ colon → PastPieces i p ms → (t : Token) (kind : TokenKind) → t.kind ≡ kind
    → Keeps (p ++ a ∷ c ∷ []) (ms ++ 0 ∷ 0 ∷ []) t (only (is kind open_brace) 0 (assembly_more i))
opens_texts a c f g w t kind e =
    keep_only (is kind open_brace) _ _ (λ h. goes_to (r_assembly_more a c t f g (e ∙ same_kind kind open_brace h) w no_texts) (simp append_assoc) (simp append_assoc))

text_at : {i : OpenInstr} {p : List Token} {ms : List ℕ} (a c : Token) → a.kind ≡ assembly_word → c.kind ≡ colon → PastPieces i p ms → (t : Token) (kind : TokenKind) → t.kind ≡ kind
    → Keeps (p ++ a ∷ c ∷ []) (ms ++ 0 ∷ 0 ∷ []) t (after_assembly i t kind)
unfolding after_assembly
text_at a c f g w t Text e =
    keeps (r_fixed refl (λ s es. r_fixed refl (λ b eb. r_fixed refl (λ h eh.
    moved (r_stmt (i_behavior (in_behavior b h eb eh w (one_text a c t s f g e es)))) (simp append_assoc) (simp append_assoc)))))
text_at a c f g w t kind e = opens_texts a c f g w t kind e

pub keep_assembly_text : {i : OpenInstr} {p : List Token} {ms : List ℕ} (a c : Token) → a.kind ≡ assembly_word → c.kind ≡ colon → PastPieces i p ms → (t : Token)
    → Keeps (p ++ a ∷ c ∷ []) (ms ++ 0 ∷ 0 ∷ []) t (act t (assembly_text i))
keep_assembly_text a c f g w t = text_at a c f g w t t.kind refl

texts_more : {ts : List Token} {ms : List ℕ} → AreTexts ts ms → (c : Token) → c.kind ≡ comma → TextsBefore (ts ++ c ∷ []) (ms ++ 0 ∷ [])
texts_more (last_text t a) c e = text_before t c a e no_texts
texts_more (more_texts t d a b w) c e = text_before t d a b (texts_more w c e)

texts_of : {ts : List Token} {ms : List ℕ} → TextsBefore ts ms → (t : Token) → t.kind ≡ Text → AreTexts (ts ++ t ∷ []) (ms ++ 0 ∷ [])
texts_of no_texts t e = last_text t e
texts_of (text_before s c a b w) t e = more_texts s c a b (texts_of w t e)

comma_at : {i : OpenInstr} {p ts : List Token} {ms ns : List ℕ} (a c o : Token) → a.kind ≡ assembly_word → c.kind ≡ colon → o.kind ≡ open_brace
    → PastPieces i p ms → TextsBefore ts ns → (t : Token) (kind : TokenKind) → t.kind ≡ kind
    → Keeps (p ++ a ∷ c ∷ o ∷ ts) (ms ++ 0 ∷ 0 ∷ 0 ∷ ns) t (after_comma i kind)
comma_at a c o f g h w m t Text e = goes_to (r_assembly_next a c o f g h w (texts_of m t e)) (simp append_assoc) (simp append_assoc)
comma_at a c o f g h w m t _ e = halts

pub keep_assembly_more : {i : OpenInstr} {p ts : List Token} {ms ns : List ℕ} (a c o : Token) → a.kind ≡ assembly_word → c.kind ≡ colon → o.kind ≡ open_brace
    → PastPieces i p ms → TextsBefore ts ns → (t : Token)
    → Keeps (p ++ a ∷ c ∷ o ∷ ts) (ms ++ 0 ∷ 0 ∷ 0 ∷ ns) t (act t (assembly_more i))
keep_assembly_more a c o f g h w m t = comma_at a c o f g h w m t t.kind refl

cons_append : {X : Type 0} (x : X) (xs ys : List X) → (x ∷ xs) ++ ys ≡ x ∷ (xs ++ ys)
cons_append x xs ys = refl

pub keep_assembly_next : {i : OpenInstr} {p ts : List Token} {ms ns : List ℕ} (a c o : Token) → a.kind ≡ assembly_word → c.kind ≡ colon → o.kind ≡ open_brace
    → PastPieces i p ms → AreTexts ts ns → (t : Token)
    → Keeps (p ++ a ∷ c ∷ o ∷ ts) (ms ++ 0 ∷ 0 ∷ 0 ∷ ns) t (act t (assembly_next i))
keep_assembly_next a c o f g h w m t =
    keep_if (is t.kind comma) _ _ (λ e. goes_to (r_assembly_more a c o f g h w (texts_more m t (same_kind t.kind comma e))) (simp append_assoc) (simp append_assoc))
    (λ x. keep_only (is t.kind close_brace) _ _
    (λ e. keeps (r_fixed refl (λ s es. r_fixed refl (λ b eb. r_fixed refl (λ k ek.
    moved (r_stmt (i_behavior (in_behavior b k eb ek w (some_texts a c o t s f g h (same_kind t.kind close_brace e) es m)))) (simp (append_assoc, cons_append)) (simp (append_assoc, cons_append))))))))

-- ---- always-blocks
pub keep_always_brace : {o : Open} {xs : List BlockTree} {p : List Token} {ms : List ℕ} {n : List ℕ} (f : Token) → f.kind ≡ Name n → InBlocks o xs p ms → (t : Token)
    → Keeps (p ++ f ∷ []) (ms ++ 0 ∷ []) t (act t (always_brace o xs f n))
keep_always_brace f a i t = keep_only (is t.kind open_brace) _ _ (λ e. goes_to (r_item_always t (same_kind t.kind open_brace e) a i) (simp append_assoc) (simp append_assoc))
