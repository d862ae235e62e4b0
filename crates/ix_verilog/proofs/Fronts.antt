-- The longest front of bytes that pass a test is one, and so is what follows `/*`.
use Rattle.std.proofs.Common.{◌≡◌, ℕ, List, [], ◌∷◌, ◌++◌, Bool, true, false, nat_eq, refl, ap, sym, ◌∙◌, subst}
use Rattle.std.specs.List.{list_all}
use Rattle.std.proofs.lemmas.Bool.{and_parts, false≢true, true≢false, eq-eqb}
use Rattle.ix_verilog.specs.Words.{Stops, IsComment, comment_end, comment_byte, ends_comment}

pub fronts : (p : ℕ → Bool) (x y z w : List ℕ) → list_all p x ≡ true → Stops p y → list_all p z ≡ true → Stops p w → x ++ y ≡ z ++ w → x ≡ z
fronts p [] y [] w a b c d e = refl
fronts p [] y (h ∷ z) w a b c d e =
    let s : Stops p (h ∷ (z ++ w)) = subst (Stops p) e b in
    let t = and_parts (p h) (list_all p z) c in
    absurd (false≢true (sym s ∙ t.0))
fronts p (h ∷ x) y [] w a b c d e =
    let s : Stops p (h ∷ (x ++ y)) = subst (Stops p) (sym e) d in
    let t = and_parts (p h) (list_all p x) a in
    absurd (false≢true (sym s ∙ t.0))
fronts p (h ∷ x) y (g ∷ z) w a b c d e =
    let k : h ≡ g = cc in
    let m : x ++ y ≡ z ++ w = cc in
    let n = fronts p x y z w (and_parts (p h) (list_all p x) a).1 b (and_parts (p g) (list_all p z) c).1 d m in
    ap (λ (q : ℕ). q ∷ x) k ∙ ap (λ (q : List ℕ). g ∷ q) n

not_end : (b c : ℕ) (x : List ℕ) → ends_comment (b ∷ c ∷ x) ≡ false → b ≡ 42 → c ≡ 47 → ⊥
not_end b c x e f g = true≢false (rw (f, g) at e)

apart : (a b : ℕ) → nat_eq a b ≡ false → a ≡ b → ⊥
apart a b e f = false≢true (sym e ∙ eq-eqb a b f)

second : (a b : ℕ) (x : List ℕ) (c d : ℕ) (y : List ℕ) → a ∷ b ∷ x ≡ c ∷ d ∷ y → b ≡ d
second a b x c d y e = cc

first : (a : ℕ) (x : List ℕ) (c : ℕ) (y : List ℕ) → a ∷ x ≡ c ∷ y → a ≡ c
first a x c y e = cc

close_after : {bs : List ℕ} → IsComment bs → (b : ℕ) (y w : List ℕ) → ends_comment (b ∷ bs) ≡ false → 42 ∷ 47 ∷ y ≡ (b ∷ bs) ++ w → ⊥
close_after comment_end b y w e f = apart 47 42 refl (second 42 47 y b 42 (47 ∷ w) f)
close_after (comment_byte {bs = bs} c e' d) b y w e f =
    let g : b ≡ 42 = sym (first 42 (47 ∷ y) b ((c ∷ bs) ++ w) f) in
    let h : c ≡ 47 = sym (second 42 47 y b c (bs ++ w) f) in
    not_end b c bs e g h

pub comments : {x z : List ℕ} → IsComment x → IsComment z → (y w : List ℕ) → x ++ y ≡ z ++ w → x ≡ z
comments comment_end comment_end y w e = refl
comments comment_end (comment_byte b f d) y w e = absurd (close_after d b y w f e)
comments (comment_byte b f d) comment_end y w e = absurd (close_after d b w y f (sym e))
comments (comment_byte {bs = bs} b f d) (comment_byte {bs = cs} c g k) y w e =
    let h : b ≡ c = cc in
    let m : bs ++ y ≡ cs ++ w = cc in
    ap (λ (q : ℕ). q ∷ bs) h ∙ ap (λ (q : List ℕ). c ∷ q) (comments d k y w m)
