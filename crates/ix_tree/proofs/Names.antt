-- Names as lists of bytes.
use Rattle.std.proofs.Common.{◌≡◌, ℕ, Bool, List, [], ◌∷◌, refl, ap, ◌∙◌, nat_eq}
use Rattle.std.specs.Cmp.Lexicographic.{pointwise}
use Rattle.ix_tree.specs.Lexing.{same_bytes}

-- what `==` of two texts answers
pub same_is : (a b : List ℕ) → pointwise nat_eq a b ≡ same_bytes a b
same_is [] [] = refl
same_is [] (c ∷ b) = refl
same_is (c ∷ a) [] = refl
same_is (c ∷ a) (d ∷ b) = rw (same_is a b) refl

-- the answer of a comparison with a name's text
pub name_test : (r : Bool) (a b n : List ℕ) → r ≡ pointwise nat_eq a n → a ≡ b → r ≡ same_bytes b n
name_test r a b n e f = e ∙ same_is a n ∙ ap (λ (m : List ℕ). same_bytes m n) f
