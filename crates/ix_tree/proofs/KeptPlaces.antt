-- What a step keeps at types, places, assignments and declarations.
use Rattle.std.proofs.Common.{◌≡◌, ℕ, ◌+◌, List, [], ◌∷◌, ◌++◌, Bool, refl, ap, sym, ◌∙◌, append_assoc, append-nil, eqb-true, Option, Some, None, nat_eq}
use Rattle.ix_bits.specs.declared.number.Ty.{Ty}
use Rattle.ix_bits.specs.declared.number.Bits.{Bits}
use Rattle.ix_bits.specs.declared.operator.BinOp.{BinOp}
use Rattle.ix_tree.specs.declared.token.Token.{Token}
use Rattle.ix_tree.specs.declared.token.TokenKind.{TokenKind}
use Rattle.ix_tree.specs.declared.token.TokenKind.TheVariants.{Name, Unsized, Word}
use Rattle.ix_tree.specs.declared.expr.TypeText.{TypeText}
use Rattle.ix_tree.specs.Tokens.{signed_word, unsigned_word, int_word, bool_word, x_word, mem_word, open_square, close_round, semicolon, comma, equals, less, greater}
use Rattle.ix_tree.specs.Trees.{Place, AssignTree, DeclTree, Part}
use Rattle.ix_tree.specs.Productions.{type_text, assign_after}
use Rattle.ix_tree.specs.Grammar.{IsAssignOp, IsStep, IsType, type_signed, type_unsigned, type_int, type_bool, IsValue, no_value, IsPlace, is_name, is_pc, IsAssign, is_step_before, is_step_after, IsDecl, is_decl, IsDecls, last_decl, more_decls, some_type, is_locals, is_assign, is_register, AreMany, no_more, one_more}
use Rattle.ix_tree.specs.Machine.{f_set, f_locals, Stack, want, type_less, type_width, type_greater, x_square, mem_square, assigned, naming, named, go, is, step_of, assign_of, sized_type, after_assign, around, step_behind, set_or_step, after_place, begin_place, begin_assign, after_decl, after_value, begin_type, after_type, width_of, with_number, with_name, act}
use Rattle.ix_tree.proofs.Reached.{Ended, ended_by, IsSign, sign_signed, sign_unsigned, cast_written, is_head, in_table, i_loop, InAssign, i_single, i_last, InPlace, i_plain, i_step, InDecls, in_decls, InNamed, in_local, in_register, i_cast, i_x, i_mem, i_set, i_value, InType, i_type_cast, i_type_locals, i_type_loop, i_type_register, i_type_table, r_want, r_type_less, r_type_width, r_type_greater, r_typed, r_placing, r_x_square, r_mem_square, r_placed, r_assigned, r_naming, r_named, r_stmt, r_done, r_for_equals, r_fixed, r_states, r_table_length}
use Rattle.ix_tree.proofs.Kept.{Keeps, halts, keeps, recast, moved, goes_to, along, keep_same, keep_if, keep_only, same_kind, OfSome, of_some, step_is, assign_is, many_more, section_more}

-- ---- types
pub keep_type : {d : ℕ} {k : Stack} {p : List Token} {ms : List ℕ} → InType d k p ms → (t : Token) → Keeps p ms t (begin_type d k t)
keep_type i t =
    keep_if (is t.kind signed_word) _ _ (λ e. keeps (r_type_less t (rw (same_kind t.kind signed_word e) sign_signed) i))
    (λ a. keep_if (is t.kind unsigned_word) _ _ (λ e. keeps (r_type_less t (rw (same_kind t.kind unsigned_word e) sign_unsigned) i))
    (λ b. keep_if (is t.kind int_word) _ _ (λ e. keeps (r_typed (type_int t (same_kind t.kind int_word e)) i))
    (λ c. keep_only (is t.kind bool_word) _ _ (λ e. keeps (r_typed (type_bool t (same_kind t.kind bool_word e)) i)))))

-- `<`, the width, `>`
pub keep_type_less : {d : ℕ} {k : Stack} {p : List Token} {ms : List ℕ} {signed : Bool} (s : Token) → IsSign s.kind signed → InType d k p ms → (t : Token)
    → Keeps (p ++ s ∷ []) (ms ++ d ∷ []) t (act t (type_less d s signed k))
keep_type_less {d} {k} {p} {ms} s u i t =
    keep_only (is t.kind less) _ _ (λ e. goes_to (r_type_width s t u (same_kind t.kind less e) i) (append_assoc p (s ∷ []) (t ∷ [])) (append_assoc ms (d ∷ []) (d ∷ [])))

keep_width : {d : ℕ} {k : Stack} {p : List Token} {ms : List ℕ} {signed : Bool} (s o : Token) → IsSign s.kind signed → o.kind ≡ less → InType d k p ms → (t : Token)
    → (kind : TokenKind) → t.kind ≡ kind
    → Keeps (p ++ s ∷ o ∷ []) (ms ++ d ∷ d ∷ []) t (with_number (width_of kind) d (λ w. type_greater d s signed w k))
keep_width {d} {k} {p} {ms} s o u a i t (Unsized ty w) e =
    goes_to (r_type_greater s o t ty w u a e i) (append_assoc p (s ∷ o ∷ []) (t ∷ [])) (append_assoc ms (d ∷ d ∷ []) (d ∷ []))
keep_width s o u a i t _ e = halts

pub keep_type_width : {d : ℕ} {k : Stack} {p : List Token} {ms : List ℕ} {signed : Bool} (s o : Token) → IsSign s.kind signed → o.kind ≡ less → InType d k p ms → (t : Token)
    → Keeps (p ++ s ∷ o ∷ []) (ms ++ d ∷ d ∷ []) t (act t (type_width d s signed k))
keep_type_width s o u a i t = keep_width s o u a i t t.kind refl

signed_type : {d : ℕ} {kind : TokenKind} {signed : Bool} → IsSign kind signed → (s o n c : Token) (ty : Ty) (w : Bits) → s.kind ≡ kind → o.kind ≡ less → n.kind ≡ Unsized ty w → c.kind ≡ greater
    → IsType d (s ∷ o ∷ n ∷ c ∷ []) (d ∷ d ∷ d ∷ d ∷ []) (type_text s c (sized_type signed w.raw))
signed_type sign_signed s o n c ty w a b e f = type_signed s o n c ty w a b e f
signed_type sign_unsigned s o n c ty w a b e f = type_unsigned s o n c ty w a b e f

pub keep_type_greater : {d : ℕ} {k : Stack} {p : List Token} {ms : List ℕ} {signed : Bool} (s o n : Token) (ty : Ty) (w : Bits)
    → IsSign s.kind signed → o.kind ≡ less → n.kind ≡ Unsized ty w → InType d k p ms → (t : Token)
    → Keeps (p ++ s ∷ o ∷ n ∷ []) (ms ++ d ∷ d ∷ d ∷ []) t (act t (type_greater d s signed w.raw k))
keep_type_greater {d} {k} {p} {ms} s o n ty w u a b i t =
    keep_only (is t.kind greater) _ _ (λ e. goes_to (r_typed (signed_type u s o n t ty w refl a b (same_kind t.kind greater e)) i)
    (append_assoc p (s ∷ o ∷ n ∷ []) (t ∷ [])) (append_assoc ms (d ∷ d ∷ d ∷ []) (d ∷ [])))

-- behind a type
typed_at : {d : ℕ} {k : Stack} {p us : List Token} {ms ks : List ℕ} {y : TypeText} → InType d k p ms → IsType d us ks y → (t : Token) (kind : TokenKind) → t.kind ≡ kind
    → Keeps (p ++ us) (ms ++ ks) t (after_type y k t kind)
typed_at (i_type_cast o a i) w t kind e =
    keep_only (is kind close_round) _ _ (λ h. goes_to (r_want (i_cast o t a (e ∙ same_kind kind close_round h) (cast_written w) i)) (simp append_assoc) (simp append_assoc))
typed_at (i_type_locals i) w t (Name n) e = keeps (moved (r_named (in_local t n e (in_decls w no_more i))) (simp (append_assoc, append-nil)) (simp (append_assoc, append-nil)))
typed_at (i_type_loop f o a b i) w t (Name n) e = goes_to (r_for_equals f o t a b e (some_type w) i) (simp append_assoc) (simp append_assoc)
typed_at (i_type_register a i) w t (Name n) e = goes_to (r_named (in_register t e a w i)) (simp append_assoc) (simp append_assoc)
typed_at (i_type_table i) w t (Name n) e =
    keeps (r_fixed refl (λ o b. moved (r_table_length (in_table t o e b w i)) (simp append_assoc) (simp append_assoc)))
typed_at (i_type_locals i) w t _ e = halts
typed_at (i_type_loop f o a b i) w t _ e = halts
typed_at (i_type_register a i) w t _ e = halts
typed_at (i_type_table i) w t _ e = halts

pub keep_typed : {d : ℕ} {k : Stack} {p us : List Token} {ms ks : List ℕ} {y : TypeText} → InType d k p ms → IsType d us ks y → (t : Token)
    → Keeps (p ++ us) (ms ++ ks) t (after_type y k t t.kind)
keep_typed i w t = typed_at i w t t.kind refl

-- ---- assignments
around_is : {d : ℕ} {k : Stack} {p : List Token} {ms : List ℕ} → InAssign d k p ms → around k ≡ d
around_is (i_single i) = refl
around_is (i_last h i) = refl

pub keep_assigned : {d : ℕ} {k : Stack} {p us : List Token} {ms ks : List ℕ} {a : AssignTree} → InAssign d k p ms → IsAssign d us ks a → (t : Token)
    → Keeps (p ++ us) (ms ++ ks) t (after_assign a k t)
keep_assigned (i_single i) w t = keep_only (is t.kind semicolon) _ _ (λ e. goes_to (r_done (is_assign t (same_kind t.kind semicolon e) w) i) (simp append_assoc) (simp append_assoc))
keep_assigned (i_last h i) w t = keep_only (is t.kind close_round) _ _ (λ e. goes_to (r_stmt (i_loop (is_head t (same_kind t.kind close_round e) h w) i)) (simp append_assoc) (simp append_assoc))

-- ---- places
begun : {d : ℕ} {k : Stack} {p : List Token} {ms : List ℕ} → InPlace d k p ms → (t : Token) (kind : TokenKind) → t.kind ≡ kind → Keeps p ms t (begin_place d k t kind)
begun i t (Name n) e = keeps (r_placed (is_name t n e) i)
begun i t (Word n) e =
    keep_if (nat_eq n 19) _ _ (λ h. keeps (r_placed (is_pc t (e ∙ ap Word (eqb-true n 19 h))) i))
    (λ a. keep_if (nat_eq n 20) _ _ (λ h. keeps (r_x_square t (e ∙ ap Word (eqb-true n 20 h)) i))
    (λ b. keep_only (nat_eq n 21) _ _ (λ h. keeps (r_mem_square t (e ∙ ap Word (eqb-true n 21 h)) i))))
begun i t _ e = halts

pub keep_place : {d : ℕ} {k : Stack} {p : List Token} {ms : List ℕ} → InPlace d k p ms → (t : Token) → Keeps p ms t (begin_place d k t t.kind)
keep_place i t = begun i t t.kind refl

assign_begun : {d : ℕ} {k : Stack} {p : List Token} {ms : List ℕ} → InAssign d k p ms → (t : Token) (o : Option BinOp) → OfSome (λ op. IsStep t.kind op) o
    → Keeps p ms t (begin_assign d k t o)
assign_begun i t None h = keep_place (i_plain i) t
assign_begun i t (Some op) (of_some s) = keeps (r_placing (i_step t s i))

pub keep_assigning : {d : ℕ} {k : Stack} {p : List Token} {ms : List ℕ} → InAssign d k p ms → (t : Token) → Keeps p ms t (begin_assign d k t (step_of t.kind))
keep_assigning i t = assign_begun i t (step_of t.kind) (step_is t.kind)

pub keep_x_square : {d : ℕ} {k : Stack} {p : List Token} {ms : List ℕ} (x : Token) → x.kind ≡ x_word → InPlace d k p ms → (t : Token)
    → Keeps (p ++ x ∷ []) (ms ++ d ∷ []) t (act t (x_square d x k))
keep_x_square {d} {k} {p} {ms} x a i t =
    keep_only (is t.kind open_square) _ _ (λ e. goes_to (r_want (i_x x t a (same_kind t.kind open_square e) i)) (append_assoc p (x ∷ []) (t ∷ [])) (append_assoc ms (d ∷ []) ((d + 1) ∷ [])))

pub keep_mem_square : {d : ℕ} {k : Stack} {p : List Token} {ms : List ℕ} (x : Token) → x.kind ≡ mem_word → InPlace d k p ms → (t : Token)
    → Keeps (p ++ x ∷ []) (ms ++ d ∷ []) t (act t (mem_square d x k))
keep_mem_square {d} {k} {p} {ms} x a i t =
    keep_only (is t.kind open_square) _ _ (λ e. goes_to (r_want (i_mem x t a (same_kind t.kind open_square e) i)) (append_assoc p (x ∷ []) (t ∷ [])) (append_assoc ms (d ∷ []) ((d + 1) ∷ [])))

step_set : {d : ℕ} {k : Stack} {p us : List Token} {ms ks : List ℕ} {l : Place} → InAssign d k p ms → IsPlace d us ks l → (t : Token) (o : Option BinOp)
    → OfSome (λ op. IsStep t.kind op) o
    → Keeps (p ++ us) (ms ++ ks) t (step_behind l k o t)
step_set i w t None h = halts
step_set {k = k} {l = l} i w t (Some op) (of_some s) =
    keep_same (ap (λ (n : ℕ). go n (assigned (assign_after l op t) k)) (around_is i))
    (goes_to (r_assigned (is_step_after t s w) i) (simp append_assoc) (simp append_assoc))

place_set : {d : ℕ} {k : Stack} {p us : List Token} {ms ks : List ℕ} {l : Place} → InAssign d k p ms → IsPlace d us ks l → (t : Token) (o : Option (Option BinOp))
    → OfSome (λ op. IsAssignOp t.kind op) o
    → Keeps (p ++ us) (ms ++ ks) t (set_or_step l k o t)
place_set i w t None h = step_set i w t (step_of t.kind) (step_is t.kind)
place_set {k = k} {l = l} i w t (Some op) (of_some s) =
    keep_same (ap (λ (n : ℕ). go n (want n (f_set n l op ∷ k))) (around_is i))
    (goes_to (r_want (i_set t s w i)) (simp append_assoc) (simp append_assoc))

pub keep_placed : {d : ℕ} {k : Stack} {p us : List Token} {ms ks : List ℕ} {l : Place} → InPlace d k p ms → IsPlace d us ks l → (t : Token)
    → Keeps (p ++ us) (ms ++ ks) t (after_place l k t)
keep_placed (i_plain (i_single i)) w t = place_set (i_single i) w t (assign_of t.kind) (assign_is t.kind)
keep_placed (i_plain (i_last h i)) w t = place_set (i_last h i) w t (assign_of t.kind) (assign_is t.kind)
keep_placed (i_step s u i) w t = along (keep_assigned i (is_step_before s u w) t) (simp append_assoc) (simp append_assoc)

-- ---- declarations
decls_of : {d : ℕ} {ts us : List Token} {ms ns : List ℕ} {x : DeclTree} {xs : List DeclTree} → AreMany (Ended comma d (IsDecl d)) ts ms xs → IsDecl d us ns x
    → IsDecls d (ts ++ us) (ms ++ ns) (xs ++ x ∷ [])
decls_of no_more h = last_decl h
decls_of {d} {x = x} (one_more {x = y} {xs = ys} (ended_by c e p) q) h =
    recast (λ (l : List Token) (m : List ℕ). IsDecls d l m (y ∷ (ys ++ x ∷ []))) (more_decls c e p (decls_of q h)) (simp append_assoc) (simp append_assoc)

pub keep_decl : {d : ℕ} {k : Stack} {p us : List Token} {ms ks : List ℕ} {y : TypeText} {x : DeclTree} {xs : List DeclTree} → InDecls d y xs k p ms → IsDecl d us ks x → (t : Token)
    → Keeps (p ++ us) (ms ++ ks) t (after_decl d x y xs k t)
keep_decl (in_decls w m i) h t =
    keep_if (is t.kind comma) _ _ (λ e. goes_to (r_naming (in_decls w (many_more m (ended_by t (same_kind t.kind comma e) h)) i)) (simp append_assoc) (simp append_assoc))
    (λ a. keep_only (is t.kind semicolon) _ _ (λ e. goes_to (r_done (is_locals t (same_kind t.kind semicolon e) w (decls_of m h)) i) (simp append_assoc) (simp append_assoc)))

pub keep_value : {d : ℕ} {k : Stack} {p us : List Token} {ms ks : List ℕ} {n : Token} {name : List ℕ} {v : Option Part} → InNamed d n name k p ms → IsValue d us ks v → (t : Token)
    → Keeps (p ++ us) (ms ++ ks) t (after_value n name v k t)
keep_value (in_local n name e i) w t = along (keep_decl i (is_decl n name e w) t) (simp append_assoc) (simp append_assoc)
keep_value (in_register {r = r} n e a y i) w t =
    keep_only (is t.kind semicolon) _ _ (λ h. goes_to (r_states (section_more i (is_register r.state.first n t r.name a e (same_kind t.kind semicolon h) y w))) (simp append_assoc) (simp append_assoc))

named_at : {d : ℕ} {k : Stack} {p : List Token} {ms : List ℕ} {y : TypeText} {xs : List DeclTree} → InDecls d y xs k p ms → (t : Token) (kind : TokenKind) → t.kind ≡ kind
    → Keeps p ms t (with_name kind d (λ n. named d t n (f_locals d y xs ∷ k)))
named_at i t (Name n) e = keeps (r_named (in_local t n e i))
named_at i t _ e = halts

pub keep_naming : {d : ℕ} {k : Stack} {p : List Token} {ms : List ℕ} {y : TypeText} {xs : List DeclTree} → InDecls d y xs k p ms → (t : Token)
    → Keeps p ms t (act t (naming d y xs k))
keep_naming i t = named_at i t t.kind refl

pub keep_named : {d : ℕ} {k : Stack} {p : List Token} {ms : List ℕ} {n : Token} {name : List ℕ} → InNamed d n name k p ms → (t : Token)
    → Keeps p ms t (act t (named d n name k))
keep_named {p = p} {ms = ms} i t =
    keep_if (is t.kind equals) _ _ (λ e. keeps (r_want (i_value t (same_kind t.kind equals e) i)))
    (λ a. along (keep_value i no_value t) (sym (append-nil p)) (sym (append-nil ms)))
