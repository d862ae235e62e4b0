-- Runs of bytes and comments, by index.
use Rattle.std.proofs.Common.{◌≡◌, ℕ, zero, suc, ◌+◌, ◌<◌, ◌≤◌, List, [], ◌∷◌, ◌++◌, length, take, drop, get_or, Bool, true, false, ◌&&◌, nat_eq, refl, ap, sym, ◌∙◌, subst, arith, drop-cons, length-drop, ◌-◌}
use Rattle.std.specs.List.{list_all}
use Rattle.std.proofs.lemmas.Bool.{and_parts, eqb-true, ne_eqb, false≢true, true≢false}
use Rattle.std.proofs.lemmas.List.{take_all}
use Rattle.std.proofs.lemmas.List.Folds.{list_all_more}
use Rattle.ix_verilog.specs.Words.{Stops, IsComment, comment_end, comment_byte, ends_comment, NoComment}

pub stops_at : (p : ℕ → Bool) (xs : List ℕ) (i : ℕ) → i < length xs → p (get_or xs i 0) ≡ false → Stops p (drop i xs)
stops_at p xs i h e = subst (Stops p) (sym (drop-cons xs i 0 h)) e

pub stops_end : (p : ℕ → Bool) (xs : List ℕ) → Stops p (drop (length xs) xs)
stops_end p [] = tt
stops_end p (x ∷ xs) = stops_end p xs

pub run_more : (p : ℕ → Bool) (xs : List ℕ) (i : ℕ) → i < length xs → list_all p (take i xs) ≡ true → p (get_or xs i 0) ≡ true → list_all p (take (i + 1) xs) ≡ true
run_more p xs i h a e = rw (list_all_more p xs i 0 h, a, e) refl

-- ---- comments
front_ends : (b n : ℕ) (bs : List ℕ) → ends_comment (b ∷ take (suc n) bs) ≡ ends_comment (b ∷ bs)
front_ends b n [] = refl
front_ends b n (c ∷ bs) = refl

pub comment_at : (bs : List ℕ) (i : ℕ) → ((k : ℕ) → k < i → ends_comment (drop k bs) ≡ false) → ends_comment (drop i bs) ≡ true → IsComment (take (suc (suc i)) bs)
comment_at [] zero h e = absurd (false≢true e)
comment_at [] (suc i) h e = absurd (false≢true e)
comment_at (b ∷ []) zero h e = absurd (false≢true e)
comment_at (b ∷ c ∷ bs) zero h e =
    let p = and_parts _ _ e in
    let x : b ≡ 42 = eqb-true b 42 p.0 in
    let y : c ≡ 47 = eqb-true c 47 p.1 in
    rw (x, y) comment_end
comment_at (b ∷ bs) (suc i) h e =
    comment_byte b (front_ends b (suc i) bs ∙ h 0 (omega arith)) (comment_at bs i (λ k l. h (suc k) (omega arith)) e)

pub comment_fits : (bs : List ℕ) (i : ℕ) → ends_comment (drop i bs) ≡ true → suc (suc i) ≤ length bs
comment_fits [] zero e = absurd (false≢true e)
comment_fits [] (suc i) e = absurd (false≢true e)
comment_fits (b ∷ []) zero e = absurd (false≢true e)
comment_fits (b ∷ c ∷ bs) zero e = omega arith
comment_fits (b ∷ bs) (suc i) e = let h = comment_fits bs i e in omega arith

never_ends : {x : List ℕ} → IsComment x → (y : List ℕ) → ((k : ℕ) → k < length (x ++ y) → ends_comment (drop k (x ++ y)) ≡ false) → ⊥
never_ends comment_end y h = true≢false (h 0 (omega arith))
never_ends (comment_byte b f d) y h = never_ends d y (λ k l. h (suc k) (omega arith))

pub no_comment : (bs : List ℕ) → ((k : ℕ) → k < length bs → ends_comment (drop k bs) ≡ false) → NoComment bs
no_comment bs h x y d e = never_ends d y (λ k l. subst (λ (z : List ℕ). ends_comment (drop k z) ≡ false) (sym e) (h k (subst (λ (z : List ℕ). k < length z) e l)))

pub comment_found : (bs : List ℕ) (i : ℕ) (b : Bool) → ((k : ℕ) → k < i → ends_comment (drop k bs) ≡ false) → b ≡ ends_comment (drop i bs) → b ≡ true → (i + 2 ≤ length bs) × IsComment (take (i + 2) bs)
comment_found bs i b h e t =
    let n : suc (suc i) ≡ i + 2 = omega arith in
    let f : ends_comment (drop i bs) ≡ true = sym e ∙ t in
    let l = comment_fits bs i f in
    (omega arith, subst (λ (z : ℕ). IsComment (take z bs)) n (comment_at bs i h f))

pub ends_at : (bs : List ℕ) (i : ℕ) → i + 1 < length bs → ends_comment (drop i bs) ≡ (nat_eq (get_or bs i 0) 42 && nat_eq (get_or bs (i + 1) 0) 47)
ends_at bs i h =
    let d : drop i bs ≡ get_or bs i 0 ∷ drop (suc i) bs = drop-cons bs i 0 (omega arith) in
    let e : drop (suc i) bs ≡ get_or bs (suc i) 0 ∷ drop (suc (suc i)) bs = drop-cons bs (suc i) 0 (omega arith) in
    let n : suc i ≡ i + 1 = omega arith in
    let f : ends_comment (get_or bs i 0 ∷ drop (suc i) bs) ≡ ends_comment (get_or bs i 0 ∷ get_or bs (suc i) 0 ∷ drop (suc (suc i)) bs) =
    ap (λ (z : List ℕ). ends_comment (get_or bs i 0 ∷ z)) e in
    ap ends_comment d ∙ f ∙ ap (λ (z : ℕ). nat_eq (get_or bs i 0) 42 && nat_eq (get_or bs z 0) 47) n

pub ends_not : (bs : List ℕ) (i : ℕ) → (get_or bs i 0 ≡ 42 → ⊥) → ends_comment (drop i bs) ≡ false
ends_not [] zero h = refl
ends_not [] (suc i) h = refl
ends_not (b ∷ []) zero h = refl
ends_not (b ∷ c ∷ bs) zero h = rw (ne_eqb b 42 h) refl
ends_not (b ∷ bs) (suc i) h = ends_not bs i h

pub ends_past : (bs : List ℕ) (i : ℕ) → length bs ≤ i + 1 → ends_comment (drop i bs) ≡ false
ends_past [] zero h = refl
ends_past [] (suc i) h = refl
ends_past (b ∷ []) zero h = refl
ends_past (b ∷ c ∷ bs) zero h = absurd (omega arith)
ends_past (b ∷ bs) (suc i) h = ends_past bs i (omega arith)

-- what is known of a slice from a place on is known of what is dropped to there
pub at_rest : (P : List ℕ → Type 0) (i : ℕ) (xs : List ℕ) → P (take (length xs - i) (drop i xs)) → P (drop i xs)
at_rest P i xs h = subst P (take_all (length xs - i) (drop i xs) (omega (arith, length-drop i xs))) h
