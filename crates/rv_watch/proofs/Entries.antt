-- Elements of lists, by their places.
use Rattle.std.proofs.Common.{◌≡◌, refl, sym, ap, ℕ, zero, suc, ◌<◌, ◌≤◌, List, [], ◌∷◌, ◌++◌, drop, take, length, Option, Some, None, arith, inl, inr, ◌⊎◌}
use Rattle.std.specs.Prelude.{slice_get}
use Rattle.std.proofs.lemmas.Option.{same_Some}

pub some_same : {A : Type 0} (x y : A) → ◌≡◌ {A = Option A} (Some x) (Some y) → x ≡ y
some_same x y e = same_Some x y e

pub get_below : {A : Type 0} (l : List A) (n : ℕ) (x : A) → slice_get l n ≡ Some x → n < length l
get_below [] n x e = cc
get_below (a ∷ l) zero x e = omega arith
get_below (a ∷ l) (suc n) x e = let lt = get_below l n x e in omega (arith, lt)

pub get_past : {A : Type 0} (l : List A) (n : ℕ) → slice_get l n ≡ None → length l ≤ n
get_past [] n e = omega arith
get_past (a ∷ l) zero e = cc
get_past (a ∷ l) (suc n) e = let le = get_past l n e in omega (arith, le)

pub get_there : {A : Type 0} (l : List A) (n : ℕ) → n < length l → (x : A) × (slice_get l n ≡ Some x)
get_there [] n lt = absurd (omega (arith, lt))
get_there (a ∷ l) zero lt = (a, refl)
get_there (a ∷ l) (suc n) lt = get_there l n (omega (arith, lt))

pub drop_at : {A : Type 0} (l : List A) (n : ℕ) (x : A) → slice_get l n ≡ Some x → drop n l ≡ x ∷ drop (suc n) l
drop_at [] n x e = cc
drop_at (a ∷ l) zero x e = ap (λ b. b ∷ l) (some_same a x e)
drop_at (a ∷ l) (suc n) x e = drop_at l n x e

-- an element behind others
pub pushed : {A : Type 0} (l : List A) (y x : A) (n : ℕ) → slice_get (l ++ y ∷ []) n ≡ Some x → (slice_get l n ≡ Some x) ⊎ ((n ≡ length l) × (x ≡ y))
pushed [] y x zero e = inr (refl, sym (some_same y x e))
pushed [] y x (suc n) e = cc
pushed (a ∷ l) y x zero e = inl e
pushed (a ∷ l) y x (suc n) e = further (pushed l y x n e) where
  further : (slice_get l n ≡ Some x) ⊎ ((n ≡ length l) × (x ≡ y)) → (slice_get l n ≡ Some x) ⊎ ((suc n ≡ suc (length l)) × (x ≡ y))
  further (inl f) = inl f
  further (inr f) = inr (ap suc f.0, f.1)

pub pushed_length : {A : Type 0} (l : List A) (y : A) → length (l ++ y ∷ []) ≡ suc (length l)
pushed_length [] y = refl
pushed_length (a ∷ l) y = ap suc (pushed_length l y)

pub get_first : {A : Type 0} (n i : ℕ) (l : List A) → i < n → slice_get (take n l) i ≡ slice_get l i
get_first zero i l lt = absurd (omega (arith, lt))
get_first (suc n) i [] lt = refl
get_first (suc n) zero (a ∷ l) lt = refl
get_first (suc n) (suc i) (a ∷ l) lt = get_first n i l (omega (arith, lt))
