-- What a step keeps at statements.
use Rattle.std.proofs.Common.{◌≡◌, ℕ, ◌+◌, ◌<◌, ◌≤◌, List, [], ◌∷◌, ◌++◌, ⊎_elim, refl, ap, sym, ◌∙◌, append_assoc, append-nil, arith, Option, None}
use Rattle.std.proofs.lemmas.Bool.Decides.{leb_tells}
use Rattle.ix_tree.specs.declared.token.Token.{Token}
use Rattle.ix_tree.specs.declared.token.TokenKind.{TokenKind}
use Rattle.ix_tree.specs.declared.token.TokenKind.TheVariants.{Name}
use Rattle.ix_tree.specs.declared.expr.TypeText.{TypeText}
use Rattle.ix_tree.specs.Tokens.{if_word, else_word, for_word, spawn_word, open_brace, close_brace, open_round, semicolon, equals}
use Rattle.ix_tree.specs.Trees.{AssignTree, StmtTree, StateTree, InstrTree, BlockTree, k_states, k_instructions, k_always, SectionTree, Part}
use Rattle.ix_tree.specs.Productions.{Done, d_for, instr_tree, section_tree}
use Rattle.ix_tree.specs.Grammar.{IsLoopType, no_type, IsStmt, is_block, is_empty, is_locals, is_assign, is_if, is_if_else, is_for, is_spawn, IsItems, no_items, more_items, is_instr, IsAlways, is_always, IsSection, is_states, is_instructions, is_always_section}
use Rattle.ix_tree.specs.Machine.{Open, OpenInstr, OpenAlways, Frame, f_branch, f_other, f_loop, f_spawn, f_always, Stack, if_round, for_round, for_head, for_equals, only, is, hold_stmt, power_stmt, settle_stmt, is_type_word, begin_stmt, in_block, after_section, begin_always, always_done, after_stmt, with_name, act}
use Rattle.ix_tree.proofs.Steps.{settle_stmt_pop, settle_stmt_stop}
use Rattle.ix_tree.proofs.Reached.{is_start, is_test, is_last, IsHead, is_head, InText, in_text, in_section, InStates, InInstrs, InBlocks, in_instr, past_pieces, InBehavior, in_behavior, InStmt, i_behavior, i_branch, i_other, i_loop, i_spawn, i_block, i_always, i_single, i_if, i_start, i_type_locals, i_type_loop, r_want, r_stmt, r_item, r_done, r_done_always, r_if_round, r_for_round, r_for_head, r_for_equals, r_sections, r_instructions, r_always_brace}
use Rattle.ix_tree.proofs.Kept.{Keeps, halts, keeps, recast, goes_to, along, keep_same, keep_if, keep_only, same_kind, some_power_stmt, most_power_stmt, many_more, section_more}
use Rattle.ix_tree.proofs.KeptPlaces.{keep_type, keep_assigning}

-- ---- a statement that is wanted
pub keep_stmt : {d : ℕ} {k : Stack} {p : List Token} {ms : List ℕ} → InStmt d k p ms → (t : Token) → Keeps p ms t (begin_stmt d k t)
unfolding begin_stmt
keep_stmt i t =
    keep_if (is t.kind open_brace) _ _ (λ e. keeps (r_item t (same_kind t.kind open_brace e) no_items i))
    (λ a. keep_if (is t.kind semicolon) _ _ (λ e. keeps (r_done (is_empty t (same_kind t.kind semicolon e)) i))
    (λ b. keep_if (is_type_word t.kind) _ _ (λ e. keep_type (i_type_locals i) t)
    (λ c. keep_if (is t.kind if_word) _ _ (λ e. keeps (r_if_round t (same_kind t.kind if_word e) i))
    (λ f. keep_if (is t.kind for_word) _ _ (λ e. keeps (r_for_round t (same_kind t.kind for_word e) i))
    (λ g. keep_if (is t.kind spawn_word) _ _ (λ e. keeps (r_stmt (i_spawn t (same_kind t.kind spawn_word e) i)))
    (λ h. keep_assigning (i_single i) t))))))

pub keep_item : {d : ℕ} {k : Stack} {p ts : List Token} {ms ns : List ℕ} {ss : List StmtTree} (o : Token) → o.kind ≡ open_brace → IsItems (d + 1) ts ns ss → InStmt d k p ms → (t : Token)
    → Keeps (p ++ o ∷ ts) (ms ++ d ∷ ns) t (in_block d o ss k t)
keep_item o a w i t =
    keep_if (is t.kind close_brace) _ _ (λ e. goes_to (r_done (is_block o t a (same_kind t.kind close_brace e) w) i) (simp append_assoc) (simp append_assoc))
    (λ b. keep_stmt (i_block o a w i) t)

pub keep_item_always : (a : OpenAlways) {p ts : List Token} {ms ns : List ℕ} {ss : List StmtTree} (o : Token) → o.kind ≡ open_brace → a.first.kind ≡ Name a.name → IsItems 1 ts ns ss
    → InBlocks a.within a.before p ms → (t : Token)
    → Keeps (p ++ a.first ∷ o ∷ ts) (ms ++ 0 ∷ 0 ∷ ns) t (in_block 0 o ss (f_always a ∷ []) t)
keep_item_always a o b n w i t =
    keep_if (is t.kind close_brace) _ _ (λ e. goes_to (r_done_always (is_always a.first o t a.name n b (same_kind t.kind close_brace e) w) i) (simp append_assoc) (simp append_assoc))
    (λ c. keep_stmt (i_always o b n w i) t)

-- ---- `if` and `for` up to their first expression
pub keep_if_round : {d : ℕ} {k : Stack} {p : List Token} {ms : List ℕ} (x : Token) → x.kind ≡ if_word → InStmt d k p ms → (t : Token)
    → Keeps (p ++ x ∷ []) (ms ++ d ∷ []) t (act t (if_round d x k))
keep_if_round x a i t = keep_only (is t.kind open_round) _ _ (λ e. goes_to (r_want (i_if x t a (same_kind t.kind open_round e) i)) (simp append_assoc) (simp append_assoc))

pub keep_for_round : {d : ℕ} {k : Stack} {p : List Token} {ms : List ℕ} (x : Token) → x.kind ≡ for_word → InStmt d k p ms → (t : Token)
    → Keeps (p ++ x ∷ []) (ms ++ d ∷ []) t (act t (for_round d x k))
keep_for_round x a i t = keep_only (is t.kind open_round) _ _ (λ e. goes_to (r_for_head x t a (same_kind t.kind open_round e) i) (simp append_assoc) (simp append_assoc))

untyped_at : {d : ℕ} {k : Stack} {p : List Token} {ms : List ℕ} (x o : Token) → x.kind ≡ for_word → o.kind ≡ open_round → InStmt d k p ms → (t : Token) (kind : TokenKind) → t.kind ≡ kind
    → Keeps (p ++ x ∷ o ∷ []) (ms ++ d ∷ (d + 1) ∷ []) t (with_name kind (d + 1) (λ n. for_equals d x None n k))
untyped_at x o a b i t (Name n) e = goes_to (r_for_equals x o t a b e no_type i) (simp append_assoc) (simp append_assoc)
untyped_at x o a b i t _ e = halts

pub keep_for_head : {d : ℕ} {k : Stack} {p : List Token} {ms : List ℕ} (x o : Token) → x.kind ≡ for_word → o.kind ≡ open_round → InStmt d k p ms → (t : Token)
    → Keeps (p ++ x ∷ o ∷ []) (ms ++ d ∷ (d + 1) ∷ []) t (act t (for_head d x k))
keep_for_head x o a b i t =
    keep_if (is_type_word t.kind) _ _ (λ e. keep_type (i_type_loop x o a b i) t) (λ e. untyped_at x o a b i t t.kind refl)

pub keep_for_equals : {d : ℕ} {k : Stack} {p ys : List Token} {ms js : List ℕ} {y : Option TypeText} {n : List ℕ} (x o q : Token)
    → x.kind ≡ for_word → o.kind ≡ open_round → q.kind ≡ Name n → IsLoopType (d + 1) ys js y → InStmt d k p ms → (t : Token)
    → Keeps (p ++ x ∷ o ∷ (ys ++ q ∷ [])) (ms ++ d ∷ (d + 1) ∷ (js ++ (d + 1) ∷ [])) t (act t (for_equals d x y n k))
keep_for_equals {n = n} x o q a b c y i t =
    keep_only (is t.kind equals) _ _ (λ e. goes_to (r_want (i_start (is_start x o q t n a b c (same_kind t.kind equals e) y) i)) (simp append_assoc) (simp append_assoc))

-- ---- a token behind a statement
abbrev grip_stmt : Stack → ℕ
grip_stmt [] = 0
grip_stmt (f ∷ k) = hold_stmt f

lower_stmt : {m n d : ℕ} {ts : List Token} {ms : List ℕ} {s : Done} → m ≤ n → IsStmt n d ts ms s → IsStmt m d ts ms s
lower_stmt l (is_block o c a b h) = is_block o c a b h
lower_stmt l (is_empty t a) = is_empty t a
lower_stmt l (is_locals c a y h) = is_locals c a y h
lower_stmt l (is_assign c a h) = is_assign c a h
lower_stmt l (is_if t o r m a b c h u) = is_if t o r (omega arith) a b c h u
lower_stmt l (is_if_else t o r e a b c q h u z) = is_if_else t o r e a b c q h u (lower_stmt l z)
lower_stmt l (is_for t o i e p q r n et eo ei ee ep eq er y a b x s) = is_for t o i e p q r n et eo ei ee ep eq er y a b x (lower_stmt l s)
lower_stmt l (is_spawn t a u) = is_spawn t a (lower_stmt l u)

items_more : {d : ℕ} {ts us : List Token} {ms ns : List ℕ} {s : Done} {ss : List StmtTree} → IsItems d ts ms ss → IsStmt 1 d us ns s → IsItems d (ts ++ us) (ms ++ ns) (ss ++ s.stmt ∷ [])
items_more {d} {us = us} {ns = ns} {s = s} no_items h =
    recast (λ (l : List Token) (m : List ℕ). IsItems d l m (s.stmt ∷ [])) (more_items h no_items) (sym (append-nil us)) (sym (append-nil ns))
items_more {d} {s = s} (more_items {s = r} {ss = rs} u v) h =
    recast (λ (l : List Token) (m : List ℕ). IsItems d l m (r.stmt ∷ (rs ++ s.stmt ∷ []))) (more_items u (items_more v h)) (simp append_assoc) (simp append_assoc)

behavior_ends : {i : OpenInstr} {p ss : List Token} {ms ns : List ℕ} {s : Done} → InBehavior i p ms → IsStmt 1 0 ss ns s → (c : Token) → c.kind ≡ close_brace
    → InInstrs i.within (i.before ++ instr_tree i.first i.name i.pieces s c ∷ []) (p ++ (ss ++ c ∷ [])) (ms ++ (ns ++ 0 ∷ []))
behavior_ends {i} {s = s} (in_behavior b h eb eh (past_pieces q eq (in_instr t o e r et eo ee er w) ps) y) u c ec =
    recast (InInstrs i.within (i.before ++ instr_tree i.first i.name i.pieces s c ∷ []))
    (section_more w (is_instr t o e r q b h c i.name et eo ee er eq eb eh ec ps y u)) (simp append_assoc) (simp append_assoc)

-- ---- the end of a section
many_sections : {t : Token} {n : List ℕ} {xs : List SectionTree} {p us : List Token} {ms ks : List ℕ} {x : SectionTree} → InText t n xs p ms → IsSection us ks x
    → InText t n (xs ++ x ∷ []) (p ++ us) (ms ++ ks)
many_sections (in_text t i e r o n a b c f g m) h = in_text t i e r o n a b c f g (many_more m h)

pub states_end : {o : Open} {xs : List StateTree} {p : List Token} {ms : List ℕ} → InStates o xs p ms → (c : Token) → c.kind ≡ close_brace
    → InText o.first o.name (o.sections ++ section_tree o.word (k_states xs) c ∷ []) (p ++ c ∷ []) (ms ++ 0 ∷ [])
states_end {o} {xs} (in_section b e f i m) c h =
    recast (InText o.first o.name (o.sections ++ section_tree o.word (k_states xs) c ∷ [])) (many_sections i (is_states o.word b c e f h m)) (simp append_assoc) (simp append_assoc)

pub instructions_end : {o : Open} {xs : List InstrTree} {p : List Token} {ms : List ℕ} → InInstrs o xs p ms → (c : Token) → c.kind ≡ close_brace
    → InText o.first o.name (o.sections ++ section_tree o.word (k_instructions xs) c ∷ []) (p ++ c ∷ []) (ms ++ 0 ∷ [])
instructions_end {o} {xs} (in_section b e f i m) c h =
    recast (InText o.first o.name (o.sections ++ section_tree o.word (k_instructions xs) c ∷ [])) (many_sections i (is_instructions o.word b c e f h m)) (simp append_assoc) (simp append_assoc)

blocks_end : {o : Open} {xs : List BlockTree} {p : List Token} {ms : List ℕ} → InBlocks o xs p ms → (c : Token) → c.kind ≡ close_brace
    → InText o.first o.name (o.sections ++ section_tree o.word (k_always xs) c ∷ []) (p ++ c ∷ []) (ms ++ 0 ∷ [])
blocks_end {o} {xs} (in_section b e f i m) c h =
    recast (InText o.first o.name (o.sections ++ section_tree o.word (k_always xs) c ∷ [])) (many_sections i (is_always_section o.word b c e f h m)) (simp append_assoc) (simp append_assoc)

closes_blocks : {o : Open} {xs : List BlockTree} {p : List Token} {ms : List ℕ} → InBlocks o xs p ms → (t : Token) (kind : TokenKind) → t.kind ≡ kind
    → Keeps p ms t (only (is kind close_brace) 0 (after_section o (section_tree o.word (k_always xs) t)))
closes_blocks i t kind e = keep_only (is kind close_brace) _ _ (λ h. keeps (r_sections (blocks_end i t (e ∙ same_kind kind close_brace h))))

pub blocks_at : {o : Open} {xs : List BlockTree} {p : List Token} {ms : List ℕ} → InBlocks o xs p ms → (t : Token) (kind : TokenKind) → t.kind ≡ kind
    → Keeps p ms t (begin_always o xs t kind)
blocks_at {o} {xs} i t (Name n) e = keeps (r_always_brace t e i)
blocks_at i t kind e = closes_blocks i t kind e

after_stmt_at : {n d : ℕ} {k : Stack} {p ts : List Token} {ms ns : List ℕ} {s : Done} → InStmt d k p ms → IsStmt n d ts ns s → (t : Token)
    → power_stmt t.kind ≤ n → grip_stmt k < power_stmt t.kind
    → Keeps (p ++ ts) (ms ++ ns) t (after_stmt s k t)
after_stmt_at {n} (i_behavior i) w t l g =
    let m : 1 ≤ n = let q = some_power_stmt t.kind in omega arith in
    keep_only (is t.kind close_brace) _ _ (λ e. goes_to (r_instructions (behavior_ends i (lower_stmt m w) t (same_kind t.kind close_brace e))) (simp append_assoc) (simp append_assoc))
after_stmt_at {n} (i_branch x o r a b c h i) w t l g =
    keep_only (is t.kind else_word) _ _
    (λ e. let m : 2 ≤ n = let q : power_stmt t.kind ≡ 2 = rw e refl in omega arith in
    goes_to (r_stmt (i_other x o r t a b c (same_kind t.kind else_word e) h (lower_stmt m w) i)) (simp append_assoc) (simp append_assoc))
after_stmt_at (i_other x o r e a b c f h u i) w t l g = absurd (let q = most_power_stmt t.kind in omega arith)
after_stmt_at (i_loop h i) w t l g = absurd (let q = most_power_stmt t.kind in omega arith)
after_stmt_at (i_spawn x a i) w t l g = absurd (let q = most_power_stmt t.kind in omega arith)
after_stmt_at {n} (i_block o a h i) w t l g =
    let m : 1 ≤ n = let q = some_power_stmt t.kind in omega arith in
    keep_if (is t.kind else_word) _ _ (λ e. halts) (λ e. along (keep_item o a (items_more h (lower_stmt m w)) i t) (simp append_assoc) (simp append_assoc))
after_stmt_at {n} (i_always {a = x} o a b h i) w t l g =
    let m : 1 ≤ n = let q = some_power_stmt t.kind in omega arith in
    keep_if (is t.kind else_word) _ _ (λ e. halts) (λ e. along (keep_item_always x o a b (items_more h (lower_stmt m w)) i t) (simp append_assoc) (simp append_assoc))

for_of : {n d : ℕ} {x : Token} {us ss : List Token} {ks os : List ℕ} {y : Option TypeText} {name : List ℕ} {v w : Part} {a : AssignTree} {s : Done}
    → IsHead d x y name v w a us ks → IsStmt n (d + 1) ss os s
    → IsStmt n d (us ++ ss) (ks ++ os) (d_for x y name v w a s)
for_of {n} {d} {x} {y = y} {name = name} {v = v} {w = w} {a = a} {s = s} (is_head r er (is_last q eq (is_test p ep (is_start t o i e m et eo ei ee u) f) g) h) z =
    recast (λ (l : List Token) (m : List ℕ). IsStmt n d l m (d_for x y name v w a s)) (is_for t o i e p q r m et eo ei ee ep eq er u f g h z) (simp append_assoc) (simp append_assoc)

stmt_stops : {n d : ℕ} {f : Frame} {k : Stack} {p ts : List Token} {ms ns : List ℕ} {s : Done} → InStmt d (f ∷ k) p ms → IsStmt n d ts ns s → (t : Token)
    → power_stmt t.kind ≤ n → hold_stmt f < power_stmt t.kind
    → Keeps (p ++ ts) (ms ++ ns) t (act t (settle_stmt (power_stmt t.kind) s (f ∷ k)))
stmt_stops {f = f} {k = k} {s = s} i w t l g = keep_same (ap (act t) (settle_stmt_stop (power_stmt t.kind) s f k g)) (after_stmt_at i w t l g)

-- first the productions end that it ends
pub keep_settled : (t : Token) {d : ℕ} {k : Stack} {p : List Token} {ms : List ℕ} → InStmt d k p ms → {n : ℕ} {ts : List Token} {ns : List ℕ} {s : Done} → IsStmt n d ts ns s
    → power_stmt t.kind ≤ n
    → Keeps (p ++ ts) (ms ++ ns) t (act t (settle_stmt (power_stmt t.kind) s k))
keep_settled t (i_behavior i) w l = stmt_stops (i_behavior i) w t l (some_power_stmt t.kind)
keep_settled t (i_branch {d = d} {k = k} {c = x} u o r a b c h i) {s = s} w l =
    ⊎_elim
    (λ e. along (keep_same (ap (act t) (settle_stmt_pop (power_stmt t.kind) s (f_branch d u x) k e.1))
    (keep_settled t i (is_if {n = 1} u o r (omega arith) a b c h (lower_stmt (let q = some_power_stmt t.kind in omega arith) w)) e.1)) (simp append_assoc) (simp append_assoc))
    (λ e. stmt_stops (i_branch u o r a b c h i) w t l e.1) (leb_tells (power_stmt t.kind) 1)
keep_settled t (i_other {d = d} {k = k} {c = x} {s = y} u o r e a b c f h v i) {s = s} w l =
    along (keep_same (ap (act t) (settle_stmt_pop (power_stmt t.kind) s (f_other d u x y) k (most_power_stmt t.kind)))
    (keep_settled t i (is_if_else u o r e a b c f h v w) l)) (simp append_assoc) (simp append_assoc)
keep_settled t (i_loop {d = d} {k = k} {t = x} {y = y} {n = m} {v = v} {w = z} {a = a} h i) {s = s} w l =
    along (keep_same (ap (act t) (settle_stmt_pop (power_stmt t.kind) s (f_loop d x y m v z a) k (most_power_stmt t.kind)))
    (keep_settled t i (for_of h w) l)) (simp append_assoc) (simp append_assoc)
keep_settled t (i_spawn {d = d} {k = k} u a i) {s = s} w l =
    along (keep_same (ap (act t) (settle_stmt_pop (power_stmt t.kind) s (f_spawn d u) k (most_power_stmt t.kind)))
    (keep_settled t i (is_spawn u a w) l)) (simp append_assoc) (simp append_assoc)
keep_settled t (i_block o a h i) w l = stmt_stops (i_block o a h i) w t l (some_power_stmt t.kind)
keep_settled t (i_always o a b h i) w l = stmt_stops (i_always o a b h i) w t l (some_power_stmt t.kind)

pub keep_done : {d : ℕ} {k : Stack} {p ts : List Token} {ms ns : List ℕ} {s : Done} (t : Token) → InStmt d k p ms → IsStmt 2 d ts ns s
    → Keeps (p ++ ts) (ms ++ ns) t (act t (settle_stmt (power_stmt t.kind) s k))
keep_done t i w = keep_settled t i w (most_power_stmt t.kind)

pub keep_done_always : (a : OpenAlways) (s : Done) {p ts : List Token} {ms ns : List ℕ} (t : Token) → InBlocks a.within a.before p ms → IsAlways ts ns (always_done a s)
    → Keeps (p ++ ts) (ms ++ ns) t (act t (settle_stmt (power_stmt t.kind) s (f_always a ∷ [])))
keep_done_always a s t i w =
    keep_same (ap (act t) (settle_stmt_stop (power_stmt t.kind) s (f_always a) [] (some_power_stmt t.kind))) (blocks_at (section_more i w) t t.kind refl)
