-- What derives is read: the tokens of a type or an expression lead from the state that wants it to the state that has it.
use Rattle.std.proofs.Common.{◌≡◌, ℕ, ◌+◌, ◌<◌, ◌≤◌, List, [], ◌∷◌, ◌++◌, Bool, true, false, ◌||◌, refl, ap, sym, ◌∙◌, append_assoc, arith}
use Rattle.std.proofs.lemmas.Bool.{or_parts}
use Rattle.ix_bits.specs.declared.operator.UnOp.{UnOp}
use Rattle.ix_tree.specs.declared.token.Token.{Token}
use Rattle.ix_tree.specs.declared.token.TokenKind.{TokenKind}
use Rattle.ix_tree.specs.declared.expr.TypeText.{TypeText}
use Rattle.ix_tree.specs.declared.expr.CastTo.TheVariants as C
use Rattle.ix_tree.specs.Tokens.{signed_word, unsigned_word, int_word, bool_word, open_square, close_square, open_round, close_round, colon, question}
use Rattle.ix_tree.specs.Trees.{ExprTree, power, before, Part, p_primary, p_cast, p_binary, p_round, p_index, p_range, p_choose}
use Rattle.ix_tree.specs.Grammar.{IsUnary, unary_minus, unary_tilde, unary_bang, IsType, type_signed, type_unsigned, type_int, type_bool, IsPrimary, primary_unsized, primary_sized, primary_true, primary_false, primary_name, primary_pc, primary_x, primary_mem, IsExpr, is_primary, is_unary, is_cast, is_cast_signed, is_cast_unsigned, is_binary, is_round, is_index, is_range, is_choose}
use Rattle.ix_tree.specs.Machine.{f_unary, f_cast, f_binary, f_round, f_index, f_range, f_then, f_else, f_type_cast, Stack, want, have, opened, cast_word, typing, type_less, type_width, type_greater, typed, go, is, is_type_word, grip, after, bare_cast, step, run, marked}
use Rattle.ix_tree.proofs.Steps.{one, same, take_one, join, marked-append, Follows, Ends, weaken, popped, power_is, ends, operator_follows, step_binary, step_after, step_close}

-- ---- types
pub complete_type : {d : ℕ} {ts : List Token} {ms : List ℕ} {y : TypeText} → IsType d ts ms y → (k : Stack) (rest : List Token) → run (typing d k) (ts ++ rest) ≡ marked ms (run (typed y k) rest)
unfolding step
complete_type {d} (type_signed t o n c ty w a b e f) k rest =
    take_one (typing d k) t (o ∷ n ∷ c ∷ rest) d (type_less d t true k) (rw a refl)
    (take_one (type_less d t true k) o (n ∷ c ∷ rest) d (type_width d t true k) (rw b refl)
    (take_one (type_width d t true k) n (c ∷ rest) d (type_greater d t true w.raw k) (rw e refl)
    (one (type_greater d t true w.raw k) c rest d _ (rw f refl))))
complete_type {d} (type_unsigned t o n c ty w a b e f) k rest =
    take_one (typing d k) t (o ∷ n ∷ c ∷ rest) d (type_less d t false k) (rw a refl)
    (take_one (type_less d t false k) o (n ∷ c ∷ rest) d (type_width d t false k) (rw b refl)
    (take_one (type_width d t false k) n (c ∷ rest) d (type_greater d t false w.raw k) (rw e refl)
    (one (type_greater d t false w.raw k) c rest d _ (rw f refl))))
complete_type {d} (type_int t a) k rest = one (typing d k) t rest d _ (rw a refl)
complete_type {d} (type_bool t a) k rest = one (typing d k) t rest d _ (rw a refl)

-- behind `(`
complete_cast : (d : ℕ) {e : ℕ} {ts : List Token} {ms : List ℕ} {y : TypeText} → IsType e ts ms y → e ≡ d + 1 → (o : Token) (k : Stack) (rest : List Token)
    → run (opened d o k) (ts ++ rest) ≡ marked ms (run (typed y (f_type_cast d o ∷ k)) rest)
unfolding step
complete_cast d {e} (type_signed t p n c ty w a b q f) h o k rest = rw h
    (take_one (opened d o k) t (p ∷ n ∷ c ∷ rest) (d + 1) (cast_word d o t true k) (rw a refl)
    (take_one (cast_word d o t true k) p (n ∷ c ∷ rest) (d + 1) (type_width (d + 1) t true (f_type_cast d o ∷ k)) (rw b refl)
    (take_one (type_width (d + 1) t true (f_type_cast d o ∷ k)) n (c ∷ rest) (d + 1) (type_greater (d + 1) t true w.raw (f_type_cast d o ∷ k)) (rw q refl)
    (one (type_greater (d + 1) t true w.raw (f_type_cast d o ∷ k)) c rest (d + 1) _ (rw f refl)))))
complete_cast d {e} (type_unsigned t p n c ty w a b q f) h o k rest = rw h
    (take_one (opened d o k) t (p ∷ n ∷ c ∷ rest) (d + 1) (cast_word d o t false k) (rw a refl)
    (take_one (cast_word d o t false k) p (n ∷ c ∷ rest) (d + 1) (type_width (d + 1) t false (f_type_cast d o ∷ k)) (rw b refl)
    (take_one (type_width (d + 1) t false (f_type_cast d o ∷ k)) n (c ∷ rest) (d + 1) (type_greater (d + 1) t false w.raw (f_type_cast d o ∷ k)) (rw q refl)
    (one (type_greater (d + 1) t false w.raw (f_type_cast d o ∷ k)) c rest (d + 1) _ (rw f refl)))))
complete_cast d {e} (type_int t a) h o k rest = rw h (one (opened d o k) t rest (d + 1) _ (rw a refl))
complete_cast d {e} (type_bool t a) h o k rest = rw h (one (opened d o k) t rest (d + 1) _ (rw a refl))

-- ---- the first token of an expression begins no type
pub record Begins (ts : List Token) : Type 0 where
  pub first : Token
  pub rest : List Token
  pub is : ts ≡ first ∷ rest
  pub plain : is_type_word first.kind ≡ false

begins_primary : {t : Token} {v : ExprTree} → IsPrimary t v → is_type_word t.kind ≡ false
begins_primary (primary_unsized t ty b e) = rw e refl
begins_primary (primary_sized t ty b e) = rw e refl
begins_primary (primary_true t e) = rw e refl
begins_primary (primary_false t e) = rw e refl
begins_primary (primary_name t n e) = rw e refl
begins_primary (primary_pc t e) = rw e refl
begins_primary (primary_x t e) = rw e refl
begins_primary (primary_mem t e) = rw e refl

begins_unary : {k : TokenKind} {op : UnOp} → IsUnary k op → is_type_word k ≡ false
begins_unary unary_minus = refl
begins_unary unary_tilde = refl
begins_unary unary_bang = refl

begins_with : (t : Token) (ts : List Token) → is_type_word t.kind ≡ false → Begins (t ∷ ts)
begins_with t ts e = record { first = t; rest = ts; is = refl; plain = e }

begins_along : (xs ys : List Token) → xs ≡ ys → Begins ys → Begins xs
begins_along xs ys e h = record { first = h.first; rest = h.rest; is = e ∙ h.is; plain = h.plain }

pub begins : {n d : ℕ} {ts : List Token} {ms : List ℕ} {v : Part} → IsExpr n d ts ms v → (us : List Token) → Begins (ts ++ us)
begins (is_primary t p) us = begins_with t us (begins_primary p)
begins (is_unary t l u d) us = begins_with t _ (begins_unary u)
begins (is_cast o c l a b y d) us = begins_with o _ (rw a refl)
begins (is_cast_signed o s c l a b e d) us = begins_with o _ (rw a refl)
begins (is_cast_unsigned o s c l a b e d) us = begins_with o _ (rw a refl)
begins (is_binary {xs = xs} {ys = ys} t l o d e) us = begins_along _ _ (append_assoc xs (t ∷ ys) us) (begins d (t ∷ ys ++ us))
begins (is_round o c a b d) us = begins_with o _ (rw a refl)
begins (is_index {xs = xs} {ys = ys} o c l a b d e) us = begins_along _ _ (append_assoc xs (o ∷ (ys ++ c ∷ [])) us) (begins d (o ∷ (ys ++ c ∷ []) ++ us))
begins (is_range {xs = xs} {ys = ys} {zs = zs} o r c l a b f d e g) us =
    begins_along _ _ (append_assoc xs (o ∷ (ys ++ r ∷ (zs ++ c ∷ []))) us) (begins d (o ∷ (ys ++ r ∷ (zs ++ c ∷ [])) ++ us))
begins (is_choose {cs = cs} {xs = xs} {ys = ys} q r l a b d e f) us =
    begins_along _ _ (append_assoc cs (q ∷ (xs ++ r ∷ ys)) us) (begins d (q ∷ (xs ++ r ∷ ys) ++ us))

opened_same : (d : ℕ) (o : Token) (k : Stack) (t : Token) → is_type_word t.kind ≡ false → step (opened d o k) t ≡ step (want (d + 1) (f_round d o ∷ k)) t
unfolding step
opened_same d o k t e =
    let s = is t.kind signed_word in
    let u = is t.kind unsigned_word in
    let i = is t.kind int_word in
    let b = is t.kind bool_word in
    let p = or_parts (s || u || i) b e in
    let q = or_parts (s || u) i p.0 in
    let r = or_parts s u q.0 in
    rw (r.0, r.1, q.1, p.1) refl

opened_is : (d : ℕ) (o : Token) (k : Stack) (ts : List Token) → Begins ts → run (opened d o k) ts ≡ run (want (d + 1) (f_round d o ∷ k)) ts
opened_is d o k ts h = rw h.is (same (opened d o k) (want (d + 1) (f_round d o ∷ k)) h.first h.rest (opened_same d o k h.first h.plain))

-- ---- expressions
unary_step : (d : ℕ) (t : Token) (k : Stack) (kind : TokenKind) (op : UnOp) → t.kind ≡ kind → IsUnary kind op → step (want d k) t ≡ go d (want (d + 1) (f_unary d t op ∷ k))
unfolding step
unary_step d t k kind op e unary_minus = rw e refl
unary_step d t k kind op e unary_tilde = rw e refl
unary_step d t k kind op e unary_bang = rw e refl

step_unary : (d : ℕ) (t : Token) (k : Stack) (op : UnOp) → IsUnary t.kind op → step (want d k) t ≡ go d (want (d + 1) (f_unary d t op ∷ k))
step_unary d t k op u = unary_step d t k t.kind op refl u

step_primary : (d : ℕ) (k : Stack) {t : Token} {v : ExprTree} → IsPrimary t v → step (want d k) t ≡ go d (have d (p_primary t v) k)
unfolding step
step_primary d k (primary_unsized t ty b e) = rw e refl
step_primary d k (primary_sized t ty b e) = rw e refl
step_primary d k (primary_true t e) = rw e refl
step_primary d k (primary_false t e) = rw e refl
step_primary d k (primary_name t n e) = rw e refl
step_primary d k (primary_pc t e) = rw e refl
step_primary d k (primary_x t e) = rw e refl
step_primary d k (primary_mem t e) = rw e refl

step_open : (d : ℕ) (o : Token) (k : Stack) → o.kind ≡ open_round → step (want d k) o ≡ go (d + 1) (opened d o k)
unfolding step
step_open d o k e = rw e refl

step_index : (d : ℕ) (x : Part) (o : Token) (k : Stack) → o.kind ≡ open_square → grip k < 26
    → step (have d x k) o ≡ go (d + (before 26 x + 1)) (want (d + (before 26 x + 1)) (f_index d x ∷ k))
unfolding after power
step_index d x o k e g = step_after d 26 x o k (power_is o open_square e) g

step_choose : (d : ℕ) (x : Part) (q : Token) (k : Stack) → q.kind ≡ question → grip k < 2 → step (have d x k) q ≡ go d (want (d + 1) (f_then d x ∷ k))
unfolding after power
step_choose d x q k e g = step_after d 2 x q k (power_is q question e) g

step_bare : (d : ℕ) (o s c : Token) (signed : Bool) (k : Stack) → c.kind ≡ close_round
    → step (cast_word d o s signed k) c ≡ go (d + 1) (want (d + 1) (f_cast d o (bare_cast signed) ∷ k))
unfolding step
step_bare d o s c signed k e = rw e refl

step_signed : (d : ℕ) (o s : Token) (k : Stack) → s.kind ≡ signed_word → step (opened d o k) s ≡ go (d + 1) (cast_word d o s true k)
unfolding step
step_signed d o s k e = rw e refl

step_unsigned : (d : ℕ) (o s : Token) (k : Stack) → s.kind ≡ unsigned_word → step (opened d o k) s ≡ go (d + 1) (cast_word d o s false k)
unfolding step
step_unsigned d o s k e = rw e refl

step_cast : (d : ℕ) (o c : Token) (y : TypeText) (k : Stack) → c.kind ≡ close_round
    → step (typed y (f_type_cast d o ∷ k)) c ≡ go (d + 1) (want (d + 1) (f_cast d o (C.Written y) ∷ k))
unfolding step
step_cast d o c y k e = rw e refl

below_two : (p n : ℕ) → n ≤ 2 → Follows n p → p ≤ 1
below_two p n l h = let a : p ≤ n = h.0 in let b : p ≡ 2 → 3 ≤ n = h.1 in grind arith

-- what ends a unary production or a cast ends its operand
operand : (n : ℕ) (rest : List Token) → Ends n rest → n ≤ 25 → Ends 25 rest
operand n rest f l = weaken 25 n rest (λ p h. (omega arith, λ e. omega arith, h.2)) f

pub complete : {n d : ℕ} {ts : List Token} {ms : List ℕ} {v : Part} → IsExpr n d ts ms v → (k : Stack) (rest : List Token) → grip k < n → Ends n rest
    → run (want d k) (ts ++ rest) ≡ marked ms (run (have d v k) rest)
unfolding power
complete {d = d} (is_primary t p) k rest g f = one (want d k) t rest d _ (step_primary d k p)
complete {n} {d} (is_unary {ts = ts} {v = v} {op = op} t l u e) k rest g f =
    take_one (want d k) t (ts ++ rest) d (want (d + 1) (f_unary d t op ∷ k)) (step_unary d t k op u)
    (join _ (complete e (f_unary d t op ∷ k) rest (omega arith) (operand n rest f l)) (popped n (d + 1) v (f_unary d t op) k rest (λ p h. omega arith) f))
complete {n} {d} (is_cast {us = us} {ts = ts} {ks = ks} {ms = ms} {y = y} {v = v} o c l a b w e) k rest g f =
    take_one (want d k) o ((us ++ c ∷ ts) ++ rest) (d + 1) (opened d o k) (step_open d o k a)
    (ap (run (opened d o k)) (append_assoc us (c ∷ ts) rest)
    ∙ join ks (complete_cast d w refl o k (c ∷ (ts ++ rest)))
    (take_one (typed y (f_type_cast d o ∷ k)) c (ts ++ rest) (d + 1) (want (d + 1) (f_cast d o (C.Written y) ∷ k)) (step_cast d o c y k b)
    (join ms (complete e (f_cast d o (C.Written y) ∷ k) rest (omega arith) (operand n rest f l))
    (popped n (d + 1) v (f_cast d o (C.Written y)) k rest (λ p h. omega arith) f)))
    ∙ sym (marked-append ks ((d + 1) ∷ ms) (run (have d (p_cast o (C.Written y) v) k) rest)))
complete {n} {d} (is_cast_signed {ts = ts} {ms = ms} {v = v} o s c l a h b e) k rest g f =
    take_one (want d k) o (s ∷ c ∷ ts ++ rest) (d + 1) (opened d o k) (step_open d o k a)
    (take_one (opened d o k) s (c ∷ ts ++ rest) (d + 1) (cast_word d o s true k) (step_signed d o s k h)
    (take_one (cast_word d o s true k) c (ts ++ rest) (d + 1) (want (d + 1) (f_cast d o C.Signed ∷ k)) (step_bare d o s c true k b)
    (join ms (complete e (f_cast d o C.Signed ∷ k) rest (omega arith) (operand n rest f l)) (popped n (d + 1) v (f_cast d o C.Signed) k rest (λ p h. omega arith) f))))
complete {n} {d} (is_cast_unsigned {ts = ts} {ms = ms} {v = v} o s c l a h b e) k rest g f =
    take_one (want d k) o (s ∷ c ∷ ts ++ rest) (d + 1) (opened d o k) (step_open d o k a)
    (take_one (opened d o k) s (c ∷ ts ++ rest) (d + 1) (cast_word d o s false k) (step_unsigned d o s k h)
    (take_one (cast_word d o s false k) c (ts ++ rest) (d + 1) (want (d + 1) (f_cast d o C.Unsigned ∷ k)) (step_bare d o s c false k b)
    (join ms (complete e (f_cast d o C.Unsigned ∷ k) rest (omega arith) (operand n rest f l)) (popped n (d + 1) v (f_cast d o C.Unsigned) k rest (λ p h. omega arith) f))))
complete {n} {d} (is_binary {xs = xs} {ys = ys} {ms = ms} {ns = ns} {x = x} {y = y} t l o a b) k rest g f =
    let p : ℕ = power t.kind in
    ap (run (want d k)) (append_assoc xs (t ∷ ys) rest)
    ∙ join ms (complete a k (t ∷ (ys ++ rest)) (omega arith) (operator_follows t.kind o))
    (take_one (have d x k) t (ys ++ rest) (d + before p x) (want (d + (before p x + 1)) (f_binary d x t ∷ k)) (step_binary d x t k o (omega arith))
    (join ns (complete b (f_binary d x t ∷ k) rest (omega arith) (weaken (p + 1) n rest (λ q h. (omega arith, λ e. omega (arith, o.low), h.2)) f))
    (popped n (d + (before p x + 1)) y (f_binary d x t) k rest (λ q h. omega arith) f)))
    ∙ sym (marked-append ms ((d + before p x) ∷ ns) (run (have d (p_binary x t y) k) rest))
complete {n} {d} (is_round {ts = ts} {ms = ms} {v = v} o c a b e) k rest g f =
    take_one (want d k) o ((ts ++ c ∷ []) ++ rest) (d + 1) (opened d o k) (step_open d o k a)
    (ap (run (opened d o k)) (append_assoc ts (c ∷ []) rest)
    ∙ opened_is d o k (ts ++ c ∷ rest) (begins e (c ∷ rest))
    ∙ join ms (complete e (f_round d o ∷ k) (c ∷ rest) (omega arith) (ends 2 c rest close_round b (omega arith, λ h. omega arith, λ h. omega arith)))
    (one (have (d + 1) v (f_round d o ∷ k)) c rest (d + 1) (have d (p_round o v c) k) (step_close (d + 1) v c (f_round d o ∷ k) (d + 1) _ (power_is c close_round b) (omega arith) (rw b refl)))
    ∙ sym (marked-append ms ((d + 1) ∷ []) (run (have d (p_round o v c) k) rest)))
complete {n} {d} (is_index {xs = xs} {ys = ys} {ms = ms} {ns = ns} {x = x} {y = y} o c l a b e z) k rest g f =
    let m : ℕ = d + (before 26 x + 1) in
    ap (run (want d k)) (append_assoc xs (o ∷ (ys ++ c ∷ [])) rest)
    ∙ join ms (complete e k (o ∷ ((ys ++ c ∷ []) ++ rest)) (omega arith) (ends 26 o ((ys ++ c ∷ []) ++ rest) open_square a (omega arith, λ h. omega arith, λ h. omega arith)))
    (take_one (have d x k) o ((ys ++ c ∷ []) ++ rest) m (want m (f_index d x ∷ k)) (step_index d x o k a (omega arith))
    (ap (run (want m (f_index d x ∷ k))) (append_assoc ys (c ∷ []) rest)
    ∙ join ns (complete z (f_index d x ∷ k) (c ∷ rest) (omega arith) (ends 2 c rest close_square b (omega arith, λ h. omega arith, λ h. omega arith)))
    (one (have m y (f_index d x ∷ k)) c rest m (have d (p_index x y c) k) (step_close m y c (f_index d x ∷ k) m _ (power_is c close_square b) (omega arith) (rw b refl)))
    ∙ sym (marked-append ns (m ∷ []) (run (have d (p_index x y c) k) rest))))
    ∙ sym (marked-append ms (m ∷ (ns ++ m ∷ [])) (run (have d (p_index x y c) k) rest))
complete {n} {d} (is_range {xs = xs} {ys = ys} {zs = zs} {ms = ms} {ns = ns} {ks = ks} {x = x} {y = y} {z = z} o r c l a q b e h w) k rest g f =
    let m : ℕ = d + (before 26 x + 1) in
    ap (run (want d k)) (append_assoc xs (o ∷ (ys ++ r ∷ (zs ++ c ∷ []))) rest)
    ∙ join ms (complete e k (o ∷ ((ys ++ r ∷ (zs ++ c ∷ [])) ++ rest)) (omega arith) (ends 26 o ((ys ++ r ∷ (zs ++ c ∷ [])) ++ rest) open_square a (omega arith, λ h. omega arith, λ h. omega arith)))
    (take_one (have d x k) o ((ys ++ r ∷ (zs ++ c ∷ [])) ++ rest) m (want m (f_index d x ∷ k)) (step_index d x o k a (omega arith))
    (ap (run (want m (f_index d x ∷ k))) (append_assoc ys (r ∷ (zs ++ c ∷ [])) rest)
    ∙ join ns (complete h (f_index d x ∷ k) (r ∷ ((zs ++ c ∷ []) ++ rest)) (omega arith) (ends 2 r ((zs ++ c ∷ []) ++ rest) colon q (omega arith, λ h. omega arith, λ h. omega arith)))
    (take_one (have m y (f_index d x ∷ k)) r ((zs ++ c ∷ []) ++ rest) m (want m (f_range d x y ∷ k)) (step_close m y r (f_index d x ∷ k) m _ (power_is r colon q) (omega arith) (rw q refl))
    (ap (run (want m (f_range d x y ∷ k))) (append_assoc zs (c ∷ []) rest)
    ∙ join ks (complete w (f_range d x y ∷ k) (c ∷ rest) (omega arith) (ends 2 c rest close_square b (omega arith, λ h. omega arith, λ h. omega arith)))
    (one (have m z (f_range d x y ∷ k)) c rest m (have d (p_range x y z c) k) (step_close m z c (f_range d x y ∷ k) m _ (power_is c close_square b) (omega arith) (rw b refl)))
    ∙ sym (marked-append ks (m ∷ []) (run (have d (p_range x y z c) k) rest))))
    ∙ sym (marked-append ns (m ∷ (ks ++ m ∷ [])) (run (have d (p_range x y z c) k) rest))))
    ∙ sym (marked-append ms (m ∷ (ns ++ m ∷ (ks ++ m ∷ []))) (run (have d (p_range x y z c) k) rest))
complete {n} {d} (is_choose {cs = cs} {xs = xs} {ys = ys} {us = us} {ms = ms} {ns = ns} {c = c} {x = x} {y = y} q r l a b e z u) k rest g f =
    ap (run (want d k)) (append_assoc cs (q ∷ (xs ++ r ∷ ys)) rest)
    ∙ join us (complete e k (q ∷ ((xs ++ r ∷ ys) ++ rest)) (omega arith) (ends 3 q ((xs ++ r ∷ ys) ++ rest) question a (omega arith, λ h. omega arith, λ h. omega arith)))
    (take_one (have d c k) q ((xs ++ r ∷ ys) ++ rest) d (want (d + 1) (f_then d c ∷ k)) (step_choose d c q k a (omega arith))
    (ap (run (want (d + 1) (f_then d c ∷ k))) (append_assoc xs (r ∷ ys) rest)
    ∙ join ms (complete z (f_then d c ∷ k) (r ∷ (ys ++ rest)) (omega arith) (ends 2 r (ys ++ rest) colon b (omega arith, λ h. omega arith, λ h. omega arith)))
    (take_one (have (d + 1) x (f_then d c ∷ k)) r (ys ++ rest) d (want (d + 1) (f_else d c x ∷ k)) (step_close (d + 1) x r (f_then d c ∷ k) d _ (power_is r colon b) (omega arith) (rw b refl))
    (join ns (complete u (f_else d c x ∷ k) rest (omega arith) (weaken 2 n rest (λ p h. (omega arith, λ e. omega (arith, h.1 e), h.2)) f))
    (popped n (d + 1) y (f_else d c x) k rest (λ p h. below_two p n l h) f)))
    ∙ sym (marked-append ms (d ∷ ns) (run (have d (p_choose c x y) k) rest))))
    ∙ sym (marked-append us (d ∷ (ms ++ d ∷ ns)) (run (have d (p_choose c x y) k) rest))
