-- What a step keeps at expressions.
use Rattle.std.proofs.Common.{◌≡◌, ℕ, ◌+◌, ◌<◌, ◌≤◌, ⊎_elim, List, [], ◌∷◌, ◌++◌, Bool, false, refl, ap, append_assoc, arith, Option, Some, None, nat_eq}
use Rattle.std.proofs.lemmas.Bool.Decides.{nat_tests, leb_tells}
use Rattle.ix_bits.specs.declared.operator.UnOp.{UnOp}
use Rattle.ix_tree.specs.declared.token.Token.{Token}
use Rattle.ix_tree.specs.declared.expr.CastTo.{CastTo}
use Rattle.ix_tree.specs.Tokens.{signed_word, unsigned_word, close_brace, close_square, open_round, close_round, semicolon, comma, colon, less}
use Rattle.ix_tree.specs.Trees.{ExprTree, power, Part, before, p_cast}
use Rattle.ix_tree.specs.Grammar.{IsUnary, IsPrimary, IsExpr, is_primary, is_unary, is_cast, is_cast_signed, is_cast_unsigned, is_binary, is_round, is_index, is_range, is_choose, some_value, is_x, is_mem, is_mem_range, is_set, IsEntries, last_entry, more_entries, AreMany, no_more, one_more}
use Rattle.ix_tree.specs.Machine.{NamedState, f_unary, f_cast, f_binary, f_else, f_entries, Stack, want, go, is, primary, unary_of, bare_cast, grip, settle, is_type_word, want_unary, want_primary, begin_expr, after_open, after_cast_word, close, after, act}
use Rattle.ix_tree.proofs.Steps.{Follows, settle_stop, settle_pop}
use Rattle.ix_tree.proofs.Reached.{Ended, ended_by, IsEntry, is_entry, IsSign, sign_signed, sign_unsigned, IsCastTo, cast_written, cast_signed, cast_unsigned, is_test, is_last, InEntries, in_entries, i_branch, i_last, InExpr, i_unary, i_cast, i_binary, i_round, i_index, i_range, i_then, i_else, i_x, i_mem, i_mem_range, i_set, i_value, i_if, i_start, i_test, i_entries, i_type_cast, r_want, r_have, r_opened, r_cast_word, r_type_width, r_placed, r_stmt, r_assigning, r_table_end}
use Rattle.ix_tree.proofs.Kept.{Keeps, halts, keeps, recast, goes_to, along, keep_same, keep_if, keep_only, same_kind, OfSome, of_some, primary_is, unary_is, PowerOf, power_other, power_question, power_square, power_operator, power_of, follows_all, some_power, lower, least, many_more}
use Rattle.ix_tree.proofs.KeptPlaces.{keep_type, keep_assigned, keep_value}

-- ---- an expression that is wanted
unary_at : {d : ℕ} {k : Stack} {p : List Token} {ms : List ℕ} → InExpr d k p ms → (t : Token) (o : Option UnOp) → OfSome (λ op. IsUnary t.kind op) o
    → Keeps p ms t (want_unary d k t o)
unary_at i t None h = keep_only (is t.kind open_round) _ _ (λ e. keeps (r_opened t (same_kind t.kind open_round e) i))
unary_at i t (Some op) (of_some u) = keeps (r_want (i_unary t u i))

primary_at : {d : ℕ} {k : Stack} {p : List Token} {ms : List ℕ} → InExpr d k p ms → (t : Token) (o : Option ExprTree) → OfSome (λ v. IsPrimary t v) o
    → Keeps p ms t (want_primary d k t o)
primary_at i t None h = unary_at i t (unary_of t.kind) (unary_is t.kind)
primary_at i t (Some v) (of_some h) = keeps (r_have (is_primary t h) i)

pub keep_want : {d : ℕ} {k : Stack} {p : List Token} {ms : List ℕ} → InExpr d k p ms → (t : Token) → Keeps p ms t (begin_expr d k t)
keep_want i t = primary_at i t (primary t.span t.kind) (primary_is t)

-- ---- casts and brackets
pub keep_opened : {d : ℕ} {k : Stack} {p : List Token} {ms : List ℕ} (o : Token) → o.kind ≡ open_round → InExpr d k p ms → (t : Token)
    → Keeps (p ++ o ∷ []) (ms ++ (d + 1) ∷ []) t (after_open d o k t)
keep_opened {d} {k} {p} {ms} o a i t =
    keep_if (is t.kind signed_word) _ _ (λ e. goes_to (r_cast_word o t a (rw (same_kind t.kind signed_word e) sign_signed) i) (append_assoc p (o ∷ []) (t ∷ [])) (append_assoc ms ((d + 1) ∷ []) ((d + 1) ∷ [])))
    (λ b. keep_if (is t.kind unsigned_word) _ _ (λ e. goes_to (r_cast_word o t a (rw (same_kind t.kind unsigned_word e) sign_unsigned) i) (append_assoc p (o ∷ []) (t ∷ [])) (append_assoc ms ((d + 1) ∷ []) ((d + 1) ∷ [])))
    (λ c. keep_if (is_type_word t.kind) _ _ (λ e. keep_type (i_type_cast o a i) t) (λ e. keep_want (i_round o a i) t)))

bare_cast_is : {d : ℕ} {signed : Bool} (s : Token) → IsSign s.kind signed → IsCastTo d (s ∷ []) (d ∷ []) (bare_cast signed)
bare_cast_is s u = bare_at s s.kind refl u
  where
    bare_at : {d : ℕ} {signed : Bool} (s : Token) (kind : _) → s.kind ≡ kind → IsSign kind signed → IsCastTo d (s ∷ []) (d ∷ []) (bare_cast signed)
    bare_at s kind e sign_signed = cast_signed s e
    bare_at s kind e sign_unsigned = cast_unsigned s e

pub keep_cast_word : {d : ℕ} {k : Stack} {p : List Token} {ms : List ℕ} {signed : Bool} (o s : Token) → o.kind ≡ open_round → IsSign s.kind signed → InExpr d k p ms → (t : Token)
    → Keeps (p ++ o ∷ s ∷ []) (ms ++ (d + 1) ∷ (d + 1) ∷ []) t (after_cast_word d o s signed k t)
keep_cast_word {d} {k} {p} {ms} o s a u i t =
    keep_if (is t.kind close_round) _ _ (λ e. goes_to (r_want (i_cast o t a (same_kind t.kind close_round e) (bare_cast_is s u) i)) (simp append_assoc) (simp append_assoc))
    (λ b. keep_only (is t.kind less) _ _ (λ e. goes_to (r_type_width s t u (same_kind t.kind less e) (i_type_cast o a i)) (simp append_assoc) (simp append_assoc)))

-- ---- a token that closes a production
entries_of : {ts us : List Token} {ms ns : List ℕ} {x : ExprTree} {xs : List ExprTree} → AreMany (Ended comma 0 IsEntry) ts ms xs → IsEntry us ns x
    → IsEntries (ts ++ us) (ms ++ ns) (xs ++ x ∷ [])
entries_of no_more (is_entry h) = last_entry h
entries_of {x = x} (one_more {xs = ys} (ended_by c e (is_entry {v = y} p)) q) h =
    recast (λ (l : List Token) (m : List ℕ). IsEntries l m (y.tree ∷ (ys ++ x ∷ []))) (more_entries c e p (entries_of q h)) (simp append_assoc) (simp append_assoc)

entries_at : {p ts : List Token} {ms ns : List ℕ} {r : NamedState} {w : ℕ} {xs : List ExprTree} {v : Part} (e : ℕ) → InEntries r w xs p ms → IsExpr 2 0 ts ns v → (t : Token)
    → Keeps (p ++ ts) (ms ++ ns) t (close e v (f_entries r w xs ∷ []) t)
entries_at e (in_entries l q f b ty w x y z u i m) h t =
    keep_if (is t.kind comma) _ _ (λ e. goes_to (r_want (i_entries (in_entries l q f b ty w x y z u i (many_more m (ended_by t (same_kind t.kind comma e) (is_entry h)))))) (simp append_assoc) (simp append_assoc))
    (λ a. keep_only (is t.kind close_brace) _ _ (λ e. goes_to (r_table_end t (same_kind t.kind close_brace e) (in_entries l q f b ty w x y z u i no_more) (entries_of m (is_entry h))) (simp append_assoc) (simp append_assoc)))

pub keep_close : {d : ℕ} {k : Stack} {p ts : List Token} {ms ns : List ℕ} {v : Part} → InExpr d k p ms → IsExpr 2 d ts ns v → (t : Token) (e : ℕ)
    → Keeps (p ++ ts) (ms ++ ns) t (close e v k t)
keep_close (i_unary s u i) w t e = halts
keep_close (i_cast o c a b y i) w t e = halts
keep_close (i_binary s o x g i) w t e = halts
keep_close (i_else q r a b x y g i) w t e = halts
keep_close (i_round o a i) w t e =
    keep_only (is t.kind close_round) _ _ (λ h. goes_to (r_have (is_round o t a (same_kind t.kind close_round h) w) i) (simp append_assoc) (simp append_assoc))
keep_close (i_index o a x i) w t e =
    keep_if (is t.kind colon) _ _ (λ h. goes_to (r_want (i_range o t a (same_kind t.kind colon h) x w i)) (simp append_assoc) (simp append_assoc))
    (λ b. keep_only (is t.kind close_square) _ _ (λ h. goes_to (r_have (is_index o t (omega arith) a (same_kind t.kind close_square h) x w) i) (simp append_assoc) (simp append_assoc)))
keep_close (i_range o r a b x y i) w t e =
    keep_only (is t.kind close_square) _ _ (λ h. goes_to (r_have (is_range o r t (omega arith) a b (same_kind t.kind close_square h) x y w) i) (simp append_assoc) (simp append_assoc))
keep_close (i_then q a c g i) w t e =
    keep_only (is t.kind colon) _ _ (λ h. goes_to (r_want (i_else q t a (same_kind t.kind colon h) c w g i)) (simp append_assoc) (simp append_assoc))
keep_close (i_x x o a b i) w t e =
    keep_only (is t.kind close_square) _ _ (λ h. goes_to (r_placed (is_x x o t a b (same_kind t.kind close_square h) w) i) (simp append_assoc) (simp append_assoc))
keep_close (i_mem x o a b i) w t e =
    keep_if (is t.kind colon) _ _ (λ h. goes_to (r_want (i_mem_range x o t a b (same_kind t.kind colon h) w i)) (simp append_assoc) (simp append_assoc))
    (λ c. keep_only (is t.kind close_square) _ _ (λ h. goes_to (r_placed (is_mem x o t a b (same_kind t.kind close_square h) w) i) (simp append_assoc) (simp append_assoc)))
keep_close (i_mem_range x o r a b c y i) w t e =
    keep_only (is t.kind close_square) _ _ (λ h. goes_to (r_placed (is_mem_range x o r t a b c (same_kind t.kind close_square h) y w) i) (simp append_assoc) (simp append_assoc))
keep_close (i_set s a l i) w t e = along (keep_assigned i (is_set s a l w) t) (simp append_assoc) (simp append_assoc)
keep_close (i_value s a i) w t e = along (keep_value i (some_value s a w) t) (simp append_assoc) (simp append_assoc)
keep_close (i_if x o a b i) w t e =
    keep_only (is t.kind close_round) _ _ (λ h. goes_to (r_stmt (i_branch x o t a b (same_kind t.kind close_round h) w i)) (simp append_assoc) (simp append_assoc))
keep_close (i_start h i) w t e =
    keep_only (is t.kind semicolon) _ _ (λ a. goes_to (r_want (i_test (is_test t (same_kind t.kind semicolon a) h w) i)) (simp append_assoc) (simp append_assoc))
keep_close (i_test h i) w t e =
    keep_only (is t.kind semicolon) _ _ (λ a. goes_to (r_assigning (i_last (is_last t (same_kind t.kind semicolon a) h w) i)) (simp append_assoc) (simp append_assoc))
keep_close (i_entries i) w t e = entries_at e i w t

-- ---- a token behind an expression that it does not end
grip_low : {d : ℕ} {k : Stack} {p : List Token} {ms : List ℕ} → InExpr d k p ms → grip k < 25
grip_low (i_unary s u i) = omega arith
grip_low (i_cast o c a b y i) = omega arith
grip_low (i_binary s o x g i) = omega (arith, o.high)
grip_low (i_else q r a b x y g i) = omega arith
grip_low (i_round o a i) = omega arith
grip_low (i_index o a x i) = omega arith
grip_low (i_range o r a b x y i) = omega arith
grip_low (i_then q a c g i) = omega arith
grip_low (i_x x o a b i) = omega arith
grip_low (i_mem x o a b i) = omega arith
grip_low (i_mem_range x o r a b c y i) = omega arith
grip_low (i_set s a l i) = omega arith
grip_low (i_value s a i) = omega arith
grip_low (i_if x o a b i) = omega arith
grip_low (i_start h i) = omega arith
grip_low (i_test h i) = omega arith
grip_low (i_entries i) = omega arith

operator_after : (d p : ℕ) (v : Part) (k : Stack) (t : Token) → 3 ≤ p → p ≤ 23 → after p d v k t ≡ go (d + before p v) (want (d + (before p v + 1)) (f_binary d v t ∷ k))
unfolding after
operator_after d p v k t l h =
    let a : nat_eq p 1 ≡ false = grind (arith, nat_tests) in
    let b : nat_eq p 2 ≡ false = grind (arith, nat_tests) in
    let c : nat_eq p 26 ≡ false = grind (arith, nat_tests) in
    rw (a, b, c) refl

after_at : {n d : ℕ} {k : Stack} {p ts : List Token} {ms ns : List ℕ} {v : Part} → InExpr d k p ms → IsExpr n d ts ns v → (t : Token)
    → Follows n (power t.kind) → grip k < power t.kind → PowerOf t.kind
    → Keeps (p ++ ts) (ms ++ ns) t (after (power t.kind) d v k t)
unfolding after
after_at {d = d} {k = k} {v = v} i w t f g (power_other e) = keep_same (ap (λ (q : ℕ). after q d v k t) e) (keep_close i (least w) t d)
after_at {n} {d} {k = k} {v = v} i w t f g (power_question a e) =
    let l : 3 ≤ n = f.1 e in
    keep_same (ap (λ (q : ℕ). after q d v k t) e) (goes_to (r_want (i_then t a (lower l w) (omega arith) i)) (simp append_assoc) (simp append_assoc))
after_at {n} {d} {k = k} {v = v} i w t f g (power_square a e) =
    let l : 26 ≤ n = omega (arith, f.0) in
    keep_same (ap (λ (q : ℕ). after q d v k t) e) (goes_to (r_want (i_index t a (lower l w) i)) (simp append_assoc) (simp append_assoc))
after_at {n} {d} {k = k} {v = v} i w t f g (power_operator o) =
    keep_same (operator_after d (power t.kind) v k t o.low o.high) (goes_to (r_want (i_binary t o (lower f.0 w) g i)) (simp append_assoc) (simp append_assoc))

stops_at : {n d : ℕ} {k : Stack} {p ts : List Token} {ms ns : List ℕ} {v : Part} → InExpr d k p ms → IsExpr n d ts ns v → (t : Token)
    → Follows n (power t.kind) → grip k < power t.kind
    → Keeps (p ++ ts) (ms ++ ns) t (act t (settle (power t.kind) d v k))
stops_at {d = d} {k = k} {v = v} i w t f g = keep_same (ap (act t) (settle_stop (power t.kind) d v k g)) (after_at i w t f g (power_of t.kind))

cast_of : {d : ℕ} {us ts : List Token} {ks ms : List ℕ} {to : CastTo} {v : Part} (o c : Token) → o.kind ≡ open_round → c.kind ≡ close_round
    → IsCastTo (d + 1) us ks to → IsExpr 25 (d + 1) ts ms v
    → IsExpr 25 d (o ∷ (us ++ c ∷ ts)) ((d + 1) ∷ (ks ++ (d + 1) ∷ ms)) (p_cast o to v)
cast_of o c a b (cast_written y) w = is_cast o c (omega arith) a b y w
cast_of o c a b (cast_signed s h) w = is_cast_signed o s c (omega arith) a h b w
cast_of o c a b (cast_unsigned s h) w = is_cast_unsigned o s c (omega arith) a h b w

-- ---- a token behind an expression: first the productions end that it ends
pub keep_have : (t : Token) {d : ℕ} {k : Stack} {p : List Token} {ms : List ℕ} → InExpr d k p ms → {n : ℕ} {ts : List Token} {ns : List ℕ} {v : Part} → IsExpr n d ts ns v → grip k < n → Follows n (power t.kind)
    → Keeps (p ++ ts) (ms ++ ns) t (act t (settle (power t.kind) d v k))
keep_have t {d = e} (i_unary {d = d} {op = op} s u i) {v = v} w g f =
    ⊎_elim
    (λ h. along (keep_same (ap (act t) (settle_pop (power t.kind) e v (f_unary d s op) _ h.1))
    (keep_have t i (is_unary {n = 25} s (omega arith) u (lower (omega arith) w)) (grip_low i) (omega (arith, h.1), λ e. omega arith, f.2))) (simp append_assoc) (simp append_assoc))
    (λ h. stops_at (i_unary s u i) w t f h.1) (leb_tells (power t.kind) 24)
keep_have t {d = e} (i_cast {d = d} {to = to} o c a b y i) {v = v} w g f =
    ⊎_elim
    (λ h. along (keep_same (ap (act t) (settle_pop (power t.kind) e v (f_cast d o to) _ h.1))
    (keep_have t i (cast_of o c a b y (lower (omega arith) w)) (grip_low i) (omega (arith, h.1), λ e. omega arith, f.2))) (simp append_assoc) (simp append_assoc))
    (λ h. stops_at (i_cast o c a b y i) w t f h.1) (leb_tells (power t.kind) 24)
keep_have t {d = e} (i_binary {d = d} {x = x} s o y q i) {v = v} w g f =
    ⊎_elim
    (λ h. along (keep_same (ap (act t) (settle_pop (power t.kind) e v (f_binary d x s) _ h.1))
    (keep_have t i (is_binary {n = power s.kind} s (omega arith) o y (lower (omega arith) w)) q (omega (arith, h.1), λ e. omega (arith, o.low), f.2))) (simp append_assoc) (simp append_assoc))
    (λ h. stops_at (i_binary s o y q i) w t f h.1) (leb_tells (power t.kind) (power s.kind))
keep_have t {d = e} (i_else {d = d} {c = c} {x = x} q r a b y z l i) {v = v} w g f =
    ⊎_elim
    (λ h. along (keep_same (ap (act t) (settle_pop (power t.kind) e v (f_else d c x) _ h.1))
    (keep_have t i (is_choose {n = 2} q r (omega arith) a b y z (lower (omega arith) w)) l (omega (arith, h.1), λ e. omega (arith, h.1), f.2))) (simp append_assoc) (simp append_assoc))
    (λ h. stops_at (i_else q r a b y z l i) w t f h.1) (leb_tells (power t.kind) 1)
keep_have t (i_round o a i) w g f = stops_at (i_round o a i) w t f (some_power t.kind)
keep_have t (i_index o a x i) w g f = stops_at (i_index o a x i) w t f (some_power t.kind)
keep_have t (i_range o r a b x y i) w g f = stops_at (i_range o r a b x y i) w t f (some_power t.kind)
keep_have t (i_then q a c l i) w g f = stops_at (i_then q a c l i) w t f (some_power t.kind)
keep_have t (i_x x o a b i) w g f = stops_at (i_x x o a b i) w t f (some_power t.kind)
keep_have t (i_mem x o a b i) w g f = stops_at (i_mem x o a b i) w t f (some_power t.kind)
keep_have t (i_mem_range x o r a b c y i) w g f = stops_at (i_mem_range x o r a b c y i) w t f (some_power t.kind)
keep_have t (i_set s a l i) w g f = stops_at (i_set s a l i) w t f (some_power t.kind)
keep_have t (i_value s a i) w g f = stops_at (i_value s a i) w t f (some_power t.kind)
keep_have t (i_if x o a b i) w g f = stops_at (i_if x o a b i) w t f (some_power t.kind)
keep_have t (i_start h i) w g f = stops_at (i_start h i) w t f (some_power t.kind)
keep_have t (i_test h i) w g f = stops_at (i_test h i) w t f (some_power t.kind)
keep_have t (i_entries i) w g f = stops_at (i_entries i) w t f (some_power t.kind)

-- an expression of level 26
pub keep_primary : {d : ℕ} {k : Stack} {p ts : List Token} {ms ns : List ℕ} {v : Part} (t : Token) → InExpr d k p ms → IsExpr 26 d ts ns v
    → Keeps (p ++ ts) (ms ++ ns) t (act t (settle (power t.kind) d v k))
keep_primary t i w = let l = grip_low i in keep_have t i w (omega arith) (follows_all t.kind)
