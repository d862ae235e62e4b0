-- Each step keeps what was read, so what is accepted derives.
use Rattle.std.proofs.Common.{◌≡◌, ℕ, List, [], ◌∷◌, ◌++◌, refl, sym, subst, append_assoc, append-nil}
use Rattle.ix_tree.specs.declared.token.Token.{Token}
use Rattle.ix_tree.specs.Trees.{TextTree}
use Rattle.ix_tree.specs.Grammar.{no_items, IsText}
use Rattle.ix_tree.specs.Machine.{State, Next, go, is, step, accept, finish, run, marked}
use Rattle.ix_tree.proofs.Reached.{Reached, r_want, r_have, r_opened, r_cast_word, r_typing, r_type_less, r_type_width, r_type_greater, r_typed, r_placing, r_x_square, r_mem_square, r_placed, r_assigned, r_naming, r_named, r_stmt, r_item, r_item_always, r_done, r_done_always, r_if_round, r_for_round, r_for_head, r_for_equals, r_assigning, r_fixed, r_starting, r_set_name, r_sections, r_ended, r_states, r_instructions, r_blocks, r_state_word, r_table_length, r_table_end, r_piece, r_piece_square, r_piece_high, r_piece_colon, r_piece_low, r_piece_end, r_piece_next, r_after_pieces, r_assembly_text, r_assembly_more, r_assembly_next, r_always_brace}
use Rattle.ix_tree.proofs.Kept.{Keeps, halts, keeps, moved, keep_only, same_kind}
use Rattle.ix_tree.proofs.KeptPlaces.{keep_type, keep_type_less, keep_type_width, keep_type_greater, keep_typed, keep_assigned, keep_place, keep_assigning, keep_x_square, keep_mem_square, keep_placed, keep_naming, keep_named}
use Rattle.ix_tree.proofs.KeptStatements.{keep_stmt, keep_item, keep_item_always, keep_if_round, keep_for_round, keep_for_head, keep_for_equals, blocks_at, keep_done, keep_done_always}
use Rattle.ix_tree.proofs.KeptExpressions.{keep_want, keep_opened, keep_cast_word, keep_primary}
use Rattle.ix_tree.proofs.KeptSections.{keep_starting, keep_set_name, keep_section, keep_state, keep_state_word, keep_table_length, keep_table_end, keep_instr, keep_piece, keep_piece_square, keep_piece_high, keep_piece_colon, keep_piece_low, keep_piece_end, keep_piece_next, keep_after_pieces, keep_assembly_text, keep_assembly_more, keep_assembly_next, keep_always_brace}
use Rattle.ix_tree.proofs.Walks.{Walks, stands, goes, walks_all}

pub step_kept : {s : State} {p : List Token} {ms : List ℕ} → Reached s p ms → (t : Token) → Keeps p ms t (step s t)
unfolding step
step_kept (r_want i) t = keep_want i t
step_kept (r_have w i) t = keep_primary t i w
step_kept (r_opened o a i) t = keep_opened o a i t
step_kept (r_cast_word o s a u i) t = keep_cast_word o s a u i t
step_kept (r_typing i) t = keep_type i t
step_kept (r_type_less s u i) t = keep_type_less s u i t
step_kept (r_type_width s o u a i) t = keep_type_width s o u a i t
step_kept (r_type_greater s o n ty w u a b i) t = keep_type_greater s o n ty w u a b i t
step_kept (r_typed w i) t = keep_typed i w t
step_kept (r_placing i) t = keep_place i t
step_kept (r_x_square x a i) t = keep_x_square x a i t
step_kept (r_mem_square x a i) t = keep_mem_square x a i t
step_kept (r_placed w i) t = keep_placed i w t
step_kept (r_assigned w i) t = keep_assigned i w t
step_kept (r_naming i) t = keep_naming i t
step_kept (r_named i) t = keep_named i t
step_kept (r_stmt i) t = keep_stmt i t
step_kept (r_item o a w i) t = keep_item o a w i t
step_kept (r_item_always {a = a} o b n i) t = keep_item_always a o b n no_items i t
step_kept (r_done w i) t = keep_done t i w
step_kept (r_done_always {a = a} {s = s} w i) t = keep_done_always a s t i w
step_kept (r_if_round x a i) t = keep_if_round x a i t
step_kept (r_for_round x a i) t = keep_for_round x a i t
step_kept (r_for_head x o a b i) t = keep_for_head x o a b i t
step_kept (r_for_equals x o q a b c y i) t = keep_for_equals x o q a b c y i t
step_kept (r_assigning i) t = keep_assigning i t
step_kept (r_fixed {kind = kind} q h) t = keep_only (is t.kind kind) _ _ (λ e. keeps (h t (same_kind t.kind kind e)))
step_kept r_starting t = keep_starting t
step_kept (r_set_name f a) t = keep_set_name f a t
step_kept (r_sections i) t = keep_section i t
step_kept (r_ended w) t = halts
step_kept (r_states i) t = keep_state i t
step_kept (r_instructions i) t = keep_instr i t
step_kept (r_blocks i) t = blocks_at i t t.kind refl
step_kept (r_state_word {r = r} a i) t = keep_state_word r a i t
step_kept (r_table_length i) t = keep_table_length i t
step_kept (r_table_end z a i m) t = keep_table_end z a i m t
step_kept (r_piece i) t = keep_piece i t
step_kept (r_piece_square f a i) t = keep_piece_square f a i t
step_kept (r_piece_high f o a b i) t = keep_piece_high f o a b i t
step_kept (r_piece_colon f o h ty hi a b c i) t = keep_piece_colon f o h ty hi a b c i t
step_kept (r_piece_low f o h r ty hi a b c g i) t = keep_piece_low f o h r ty hi a b c g i t
step_kept (r_piece_end f o h r l ty uy hi lo a b c g k i) t = keep_piece_end f o h r l ty uy hi lo a b c g k i t
step_kept (r_piece_next i) t = keep_piece_next i t
step_kept (r_after_pieces i) t = keep_after_pieces i t
step_kept (r_assembly_text a c f g w) t = keep_assembly_text a c f g w t
step_kept (r_assembly_more a c o f g h w m) t = keep_assembly_more a c o f g h w m t
step_kept (r_assembly_next a c o f g h w m) t = keep_assembly_next a c o f g h w m t
step_kept (r_always_brace f a i) t = keep_always_brace f a i t

-- ---- a run
kept_at : {p : List Token} {ms : List ℕ} {t : Token} {m : ℕ} {z : State} {x : Next} → Keeps p ms t x → x ≡ go m z → Reached z (p ++ t ∷ []) (ms ++ m ∷ [])
kept_at halts e = cc
kept_at {p} {ms} {t} {m} {z} (keeps {m = n} {z = y} r) e =
    let a : n ≡ m = cc in
    let b : y ≡ z = cc in
    subst (λ (s : State). Reached s (p ++ t ∷ []) (ms ++ m ∷ [])) b (subst (λ (l : ℕ). Reached y (p ++ t ∷ []) (ms ++ l ∷ [])) a r)

pub kept : {s : State} {p : List Token} {ms : List ℕ} (t : Token) (m : ℕ) (z : State) → Reached s p ms → step s t ≡ go m z → Reached z (p ++ t ∷ []) (ms ++ m ∷ [])
kept t m z r e = kept_at (step_kept r t) e

-- the end of a run
finished : {s : State} {p : List Token} {ms : List ℕ} (x : TextTree) → Reached s p ms → finish s ≡ accept x → IsText p ms x
finished {p = p} {ms = ms} x (r_ended {x = y} w) e = let f : y ≡ x = cc in subst (λ (z : TextTree). IsText p ms z) f w
finished x _ e = cc

pub reached_by : {s z : State} {p ts : List Token} {ms ns : List ℕ} → Reached s p ms → Walks s ts ns z → Reached z (p ++ ts) (ms ++ ns)
reached_by {p = p} {ms = ms} r stands = moved r (append-nil p) (append-nil ms)
reached_by {p = p} {ms = ms} r (goes {y = y} {ts = ts} {ms = ns} t m e w) =
    moved (reached_by (kept t m y r e) w) (sym (append_assoc p (t ∷ []) ts)) (sym (append_assoc ms (m ∷ []) ns))

-- what a run from here accepts ends a text that began with what was read
pub ends_text : (s : State) (p ts : List Token) (ms ns : List ℕ) (x : TextTree) → Reached s p ms → run s ts ≡ marked ns (accept x) → IsText (p ++ ts) (ms ++ ns) x
ends_text s p ts ms ns x r e =
    let h = walks_all ts ns s x e in
    finished x (reached_by r h.walks) h.left
