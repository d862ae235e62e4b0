-- Tests of numbers, elements of lists, and what holds of one Boolean or the other.
use Rattle.std.proofs.Common.{◌≡◌, ℕ, zero, suc, ◌<◌, List, [], ◌∷◌, take, Option, Some, None, Bool, true, false, refl, arith, inl, inr, ◌⊎◌}
use Rattle.std.specs.Prelude.{◌||◌, ◌==◌, slice_get}
use Rattle.std.proofs.lemmas.Bool.Decides.{nat_tests}

pub differ : true ≡ false → ⊥
differ e = cc

pub not_true : (b : Bool) → (b ≡ true → ⊥) → b ≡ false
not_true true f = absurd (f refl)
not_true false f = refl

pub same_number : (a b : ℕ) → (a == b) ≡ true → a ≡ b
same_number a b e = grind (arith, nat_tests)

pub or_true : (a b : Bool) → (a || b) ≡ true → (a ≡ true) ⊎ (b ≡ true)
or_true true b e = inl refl
or_true false b e = inr e

pub false_or : (a b : Bool) → a ≡ false → b ≡ false → (a || b) ≡ false
false_or true b x y = cc
false_or false b x y = y

pub get_first : {A : Type 0} (n i : ℕ) (l : List A) → i < n → slice_get (take n l) i ≡ slice_get l i
get_first zero i l lt = absurd (omega (arith, lt))
get_first (suc n) i [] lt = refl
get_first (suc n) zero (a ∷ l) lt = refl
get_first (suc n) (suc i) (a ∷ l) lt = get_first n i l (omega (arith, lt))

-- what stands among the first ones is among them
pub taken_below : {A : Type 0} (n i : ℕ) (l : List A) (x : A) → slice_get (take n l) i ≡ Some x → i < n
taken_below zero i l x e = cc
taken_below (suc n) i [] x e = cc
taken_below (suc n) zero (a ∷ l) x e = omega arith
taken_below (suc n) (suc i) (a ∷ l) x e = let lt = taken_below n i l x e in omega (arith, lt)
