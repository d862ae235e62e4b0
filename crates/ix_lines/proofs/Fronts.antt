-- Fronts of lists.
use Rattle.std.proofs.Common.{◌≡◌, ℕ, zero, suc, ◌<◌, ◌≤◌, List, [], ◌∷◌, ◌++◌, length, take, get_or, refl, ap, arith}
use denote.Ref.{Bor}
use Rattle.ix_lines.specs.Readings.{texts}

pub take_next : {X : Type 0} (xs : List X) (k : ℕ) (d : X) → k < length xs → take (suc k) xs ≡ take k xs ++ get_or xs k d ∷ []
take_next [] k d l = absurd (omega (arith, l))
take_next (x ∷ xs) zero d l = refl
take_next (x ∷ xs) (suc k) d l = ap (λ t. x ∷ t) (take_next xs k d (omega (arith, l)))

pub take_whole : {X : Type 0} (xs : List X) (k : ℕ) → length xs ≤ k → take k xs ≡ xs
take_whole [] zero l = refl
take_whole [] (suc k) l = refl
take_whole (x ∷ xs) zero l = absurd (omega (arith, l))
take_whole (x ∷ xs) (suc k) l = ap (λ t. x ∷ t) (take_whole xs k (omega (arith, l)))

-- and of words
pub take_texts : (lines : List (Bor (List ℕ))) (i : ℕ) (d : Bor (List ℕ)) → i < length lines → take (suc i) (texts lines) ≡ take i (texts lines) ++ (get_or lines i d).now ∷ []
take_texts [] i d l = absurd (omega (arith, l))
take_texts (v ∷ lines) zero d l = refl
take_texts (v ∷ lines) (suc i) d l = ap (λ t. v.now ∷ t) (take_texts lines i d (omega (arith, l)))

pub length_texts : (lines : List (Bor (List ℕ))) → length (texts lines) ≡ length lines
length_texts [] = refl
length_texts (v ∷ lines) = ap suc (length_texts lines)
