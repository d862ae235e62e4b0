-- No bytes have two lists of tokens.
use Rattle.std.proofs.Common.{◌≡◌, ℕ, ◌^◌, ◌<◌, List, [], ◌∷◌, ◌++◌, Bool, true, false, not, refl, ap, sym, ◌∙◌, subst, ⊎_elim, arith, Some, None, nat_eq}
use Rattle.std.specs.List.{list_all}
use Rattle.std.proofs.lemmas.Bool.{eq-eqb, ne_eqb, and_parts, cases_eq, false≢true, true≢false}
use Rattle.std.proofs.lemmas.List.{append_cancel_left}
use Rattle.std.proofs.lemmas.List.Folds.{list_all-append}
use Rattle.ix_bits.specs.declared.number.Ty.{Ty}
use Rattle.ix_bits.specs.declared.number.Bits.{Bits}
use Rattle.ix_bits.proofs.Same.{ty_is, bits_are}
use Rattle.ix_tree.specs.declared.token.TokenKind.{TokenKind}
use Rattle.ix_tree.specs.declared.token.TokenKind.TheVariants.{Unsized, Sized}
use Rattle.ix_tree.specs.Lexing.{Stops, ends_comment, IsComment, comment_end, comment_byte, digit_value, IsRun, run_end, run_digit, run_gap, IsDigits, digits, IsUnsized, IsSized, IsNumber, decimal, hexadecimal, binary, sized}

apart : (a b : ℕ) → nat_eq a b ≡ false → a ≡ b → ⊥
apart a b e f = false≢true (sym e ∙ rw f (same_is b))
  where
    same_is : (b : ℕ) → nat_eq b b ≡ true
    same_is b = eq-eqb b b refl

-- ---- the longest front that passes a test
pub fronts : (p : ℕ → Bool) (x y z w : List ℕ) → list_all p x ≡ true → Stops p y → list_all p z ≡ true → Stops p w → x ++ y ≡ z ++ w → x ≡ z
fronts p [] y [] w a b c d e = refl
fronts p [] y (h ∷ z) w a b c d e =
    let s : Stops p (h ∷ (z ++ w)) = subst (Stops p) e b in
    let t = and_parts (p h) (list_all p z) c in
    absurd (false≢true (sym s ∙ t.0))
fronts p (h ∷ x) y [] w a b c d e =
    let s : Stops p (h ∷ (x ++ y)) = subst (Stops p) (sym e) d in
    let t = and_parts (p h) (list_all p x) a in
    absurd (false≢true (sym s ∙ t.0))
fronts p (h ∷ x) y (g ∷ z) w a b c d e =
    let k : h ≡ g = cc in
    let m : x ++ y ≡ z ++ w = cc in
    let n = fronts p x y z w (and_parts (p h) (list_all p x) a).1 b (and_parts (p g) (list_all p z) c).1 d m in
    ap (λ (q : ℕ). q ∷ x) k ∙ ap (λ (q : List ℕ). g ∷ q) n

-- ---- comments
close_after : {bs : List ℕ} → IsComment bs → (b : ℕ) (z y w : List ℕ) → ends_comment (b ∷ bs) ≡ false → 42 ∷ 47 ∷ y ≡ (b ∷ bs) ++ w → ⊥
close_after comment_end b z y w e f = apart 47 42 refl cc
close_after (comment_byte {bs = bs} c e' d) b z y w e f =
    let g : 42 ≡ b = cc in
    let h : 47 ≡ c = cc in
    true≢false (rw (sym g, sym h) at e)

pub comments : {x z : List ℕ} → IsComment x → IsComment z → (y w : List ℕ) → x ++ y ≡ z ++ w → x ≡ z
comments comment_end comment_end y w e = refl
comments comment_end (comment_byte b f d) y w e = absurd (close_after d b [] y w f e)
comments (comment_byte b f d) comment_end y w e = absurd (close_after d b [] w y f (sym e))
comments (comment_byte {bs = bs} b f d) (comment_byte {bs = cs} c g k) y w e =
    let h : b ≡ c = cc in
    let m : bs ++ y ≡ cs ++ w = cc in
    ap (λ (q : ℕ). q ∷ bs) h ∙ ap (λ (q : List ℕ). c ∷ q) (comments d k y w m)

-- ---- digits
abbrev pub not_tick : ℕ → Bool
not_tick b = not (nat_eq b 39)

digit_plain : (base c x : ℕ) → digit_value base c ≡ Some x → not_tick c ≡ true
digit_plain base c x e =
    ⊎_elim
    (λ (s : c ≡ 39). absurd (none_some x (rw s at e)))
    (λ (n : c ≡ 39 → ⊥). rw (ne_eqb c 39 n) refl)
    (cases_eq c 39)
  where
    none_some : (x : ℕ) → None ≡ Some x → ⊥
    none_some x f = cc

run_plain : {base a v : ℕ} {cs : List ℕ} → IsRun base a cs v → list_all not_tick cs ≡ true
run_plain run_end = refl
run_plain {base} (run_digit c x e r) = rw (digit_plain base c x e) (run_plain r)
run_plain {base} (run_gap c x e r) = rw (digit_plain base c x e) (run_plain r)

pub digits_plain : {base v : ℕ} {cs : List ℕ} → IsDigits base cs v → list_all not_tick cs ≡ true
digits_plain {base} (digits c x e r) = rw (digit_plain base c x e) (run_plain r)

pub no_gap : (base x : ℕ) → digit_value base 95 ≡ Some x → ⊥
no_gap base x e = cc

run_unique : {base a b v w : ℕ} {cs ds : List ℕ} → IsRun base a cs v → IsRun base b ds w → a ≡ b → cs ≡ ds → v ≡ w
run_unique run_end run_end e f = e
run_unique run_end (run_digit c x g r) e f = cc
run_unique run_end (run_gap c x g r) e f = cc
run_unique (run_digit c x g r) run_end e f = cc
run_unique {base} {a} {b} (run_digit c x g r) (run_digit d y h s) e f =
    let k : c ≡ d = cc in
    let m : Some x ≡ Some y = sym g ∙ rw k h in
    let n : x ≡ y = cc in
    run_unique r s (rw (e, n) refl) cc
run_unique {base} (run_digit c x g r) (run_gap d y h s) e f = let k : c ≡ 95 = cc in absurd (no_gap base x (rw k at g))
run_unique (run_gap c x g r) run_end e f = cc
run_unique {base} (run_gap c x g r) (run_digit d y h s) e f = let k : 95 ≡ d = cc in absurd (no_gap base y (rw (sym k) at h))
run_unique (run_gap c x g r) (run_gap d y h s) e f =
    let k : c ≡ d = cc in
    let m : Some x ≡ Some y = sym g ∙ rw k h in
    let n : x ≡ y = cc in
    run_unique r s (rw (e, n) refl) cc

pub digits_unique : {base v w : ℕ} {cs ds : List ℕ} → IsDigits base cs v → IsDigits base ds w → cs ≡ ds → v ≡ w
digits_unique (digits c x g r) (digits d y h s) f =
    let k : c ≡ d = cc in
    let m : Some x ≡ Some y = sym g ∙ rw k h in
    let n : x ≡ y = cc in
    run_unique r s n cc

-- ---- number literals
unsized_unique : (v w : ℕ) (ty uy : Ty) (b c : Bits) → v ≡ w → IsUnsized v ty b → IsUnsized w uy c → Unsized ty b ≡ Unsized uy c
unsized_unique v w ty uy b c e f g =
    let p : v < 2 ^ ty.width = rw (sym f.value, sym f.width) b.in_width in
    let q : w < 2 ^ uy.width = rw (sym g.value, sym g.width) c.in_width in
    let m = f.least uy.width uy.some_width (rw e q) in
    let n = g.least ty.width ty.some_width (rw (sym e) p) in
    let k : ty.width ≡ uy.width = omega arith in
    let t = ty_is ty uy (f.plain ∙ sym g.plain) k in
    let u = bits_are b c (f.value ∙ e ∙ sym g.value) (f.width ∙ k ∙ sym g.width) in
    ap (λ (z : Ty). Unsized z b) t ∙ ap (λ (z : Bits). Unsized uy z) u

sized_unique : (w v x y : ℕ) (ty uy : Ty) (b c : Bits) → w ≡ x → v ≡ y → IsSized w v ty b → IsSized x y uy c → Sized ty b ≡ Sized uy c
sized_unique w v x y ty uy b c d e f g =
    let t = ty_is ty uy (f.plain ∙ sym g.plain) (f.type_width ∙ d ∙ sym g.type_width) in
    let u = bits_are b c (f.value ∙ e ∙ sym g.value) (f.width ∙ d ∙ sym g.width) in
    ap (λ (z : Ty). Sized z b) t ∙ ap (λ (z : Bits). Sized uy z) u

pub has_tick : (c l : ℕ) (cs ds es : List ℕ) → list_all not_tick es ≡ true → es ≡ (c ∷ cs) ++ 39 ∷ l ∷ ds → ⊥
has_tick c l cs ds es a e =
    let f : list_all not_tick ((c ∷ cs) ++ 39 ∷ l ∷ ds) ≡ true = subst (λ (q : List ℕ). list_all not_tick q ≡ true) e a in
    let g = list_all-append not_tick (c ∷ cs) (39 ∷ l ∷ ds) in
    let h = and_parts (list_all not_tick (c ∷ cs)) false (sym g ∙ f) in
    false≢true h.1

pub number_unique : {bs cs : List ℕ} {k l : TokenKind} → IsNumber bs k → IsNumber cs l → bs ≡ cs → k ≡ l
number_unique (decimal {v = v} c ty b d z u) (decimal {v = w} e uy a f y t) g = unsized_unique v w ty uy b a (digits_unique d f g) u t
number_unique (decimal c ty b d z u) (hexadecimal uy a f t) g = let m = z cc in cc
number_unique (decimal c ty b d z u) (binary uy a f t) g = let m = z cc in cc
number_unique (decimal {cs = cs} c ty b d z u) (sized {cs = es} {ds = ds} e l uy a f y h i t) g = absurd (has_tick e l es ds (c ∷ cs) (digits_plain d) g)
number_unique (hexadecimal ty b d u) (decimal c uy a f z t) g = let m = z cc in cc
number_unique (hexadecimal {v = v} ty b d u) (hexadecimal {v = w} uy a f t) g = unsized_unique v w ty uy b a (digits_unique d f cc) u t
number_unique (hexadecimal ty b d u) (binary uy a f t) g = let m : 120 ≡ 98 = cc in absurd (apart 120 98 refl m)
number_unique (hexadecimal ty b d u) (sized e l uy a f y h i t) g = absurd (y cc)
number_unique (binary ty b d u) (decimal c uy a f z t) g = let m = z cc in cc
number_unique (binary ty b d u) (hexadecimal uy a f t) g = absurd (apart 98 120 refl cc)
number_unique (binary {v = v} ty b d u) (binary {v = w} uy a f t) g = unsized_unique v w ty uy b a (digits_unique d f cc) u t
number_unique (binary ty b d u) (sized e l uy a f y h i t) g = absurd (y cc)
number_unique (sized {cs = es} {ds = ds} e l ty b f y h i t) (decimal {cs = cs} c uy a d z u) g = absurd (has_tick e l es ds (c ∷ cs) (digits_plain d) (sym g))
number_unique (sized e l ty b f y h i t) (hexadecimal uy a d u) g = absurd (y cc)
number_unique (sized e l ty b f y h i t) (binary uy a d u) g = absurd (y cc)
number_unique (sized {cs = cs} {ds = ds} {w = w} {v = v} {base = base} c l ty b f y h i t) (sized {cs = es} {ds = gs} {w = x} {v = u} {base = case} e m uy a j z k n o) g =
    let p = fronts not_tick (c ∷ cs) (39 ∷ l ∷ ds) (e ∷ es) (39 ∷ m ∷ gs) (digits_plain f) refl (digits_plain j) refl g in
    let q : 39 ∷ l ∷ ds ≡ 39 ∷ m ∷ gs = append_cancel_left (c ∷ cs) (39 ∷ l ∷ ds) (39 ∷ m ∷ gs) (g ∙ ap (λ (r : List ℕ). r ++ 39 ∷ m ∷ gs) (sym p)) in
    let r : l ≡ m = cc in
    let s : ds ≡ gs = cc in
    let w' : Some base ≡ Some case = sym h ∙ rw r k in
    let b' : base ≡ case = cc in
    sized_unique w v x u ty uy b a (digits_unique f j p) (digits_unique i (rw b' n) s) t o
