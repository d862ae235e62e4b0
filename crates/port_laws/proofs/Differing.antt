-- Lists of lists of numbers that differ.
use Rattle.std.proofs.Common.{◌≡◌, ℕ, List, [], ◌∷◌, Bool, true, false, refl, sym, ap, ◌∙◌, arith}
use Rattle.std.specs.Prelude.{◌&&◌, ◌==◌}
use Rattle.std.proofs.lemmas.Bool.Decides.{nat_tests}

abbrev pub same_numbers : List ℕ → List ℕ → Bool
same_numbers [] [] = true
same_numbers [] (y ∷ ys) = false
same_numbers (x ∷ xs) [] = false
same_numbers (x ∷ xs) (y ∷ ys) = (x == y) && same_numbers xs ys

abbrev pub same_lists : List (List ℕ) → List (List ℕ) → Bool
same_lists [] [] = true
same_lists [] (y ∷ ys) = false
same_lists (x ∷ xs) [] = false
same_lists (x ∷ xs) (y ∷ ys) = same_numbers x y && same_lists xs ys

and_true : (a b : Bool) → a ≡ true → b ≡ true → (a && b) ≡ true
and_true true b e f = f
and_true false b e f = e

number_is_itself : (n : ℕ) → (n == n) ≡ true
number_is_itself n = grind (arith, nat_tests)

numbers_are_themselves : (xs : List ℕ) → same_numbers xs xs ≡ true
numbers_are_themselves [] = refl
numbers_are_themselves (x ∷ xs) = and_true (x == x) (same_numbers xs xs) (number_is_itself x) (numbers_are_themselves xs)

lists_are_themselves : (xs : List (List ℕ)) → same_lists xs xs ≡ true
lists_are_themselves [] = refl
lists_are_themselves (x ∷ xs) = and_true (same_numbers x x) (same_lists xs xs) (numbers_are_themselves x) (lists_are_themselves xs)

true_not_false : true ≡ false → ⊥
true_not_false e = grind (arith, e)

pub differ : (a b : List (List ℕ)) → same_lists a b ≡ false → a ≡ b → ⊥
differ a b other e = true_not_false (sym (lists_are_themselves a) ∙ ap (same_lists a) e ∙ other)
