-- How many bytes the lines of a text take.
use Rattle.std.proofs.Common.{◌≡◌, ℕ, ◌+◌, ◌≤◌, Bool, List, [], ◌∷◌, length, arith, inl, inr}
use Rattle.std.specs.Prelude.{sum_by}
use Rattle.std.specs.List.{slice_split, onto_first}
use Rattle.std.proofs.lemmas.Bool.{cases_Bool}
use Rattle.std.proofs.lemmas.List.Sums.{sum_by-cons}

-- the bytes of a line, and the one that ends it
abbrev pub wide : List ℕ → ℕ
wide line = length line + 1

abbrev pub width : List (List ℕ) → ℕ
width lines = sum_by wide lines

width_onto : (x : ℕ) (lines : List (List ℕ)) → 1 ≤ length lines → width (onto_first x lines) ≡ width lines + 1
width_onto x [] h = absurd (omega arith)
width_onto x (l ∷ lines) h = omega (arith, sum_by-cons wide (x ∷ l) lines, sum_by-cons wide l lines)

some_split : (p : ℕ → Bool) (xs : List ℕ) → 1 ≤ length (slice_split p xs)
some_split p [] = omega arith
some_split p (x ∷ xs) = elim (cases_Bool (p x)) [
  | inl here ↦ rw here (omega arith)
  | inr other ↦ rw other (some_onto x (slice_split p xs))
]
  where
    some_onto : (x : ℕ) (lines : List (List ℕ)) → 1 ≤ length (onto_first x lines)
    some_onto x [] = omega arith
    some_onto x (l ∷ lines) = omega arith

pub width_split : (p : ℕ → Bool) (xs : List ℕ) → width (slice_split p xs) ≡ length xs + 1
width_split p [] = omega (arith, sum_by-cons wide [] [])
width_split p (x ∷ xs) = elim (cases_Bool (p x)) [
  | inl here ↦ rw here (omega (arith, sum_by-cons wide [] (slice_split p xs), width_split p xs))
  | inr other ↦ rw other (omega (arith, width_onto x (slice_split p xs) (some_split p xs), width_split p xs))
]
