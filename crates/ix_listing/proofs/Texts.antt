-- The parts of a listing, one behind the other.
use Rattle.std.proofs.Common.{◌≡◌, ◌∙◌, ◌<◌, ◌+◌, sym, ap, subst, ℕ, zero, suc, List, [], ◌∷◌, ◌++◌, length, get_or, map, take, refl, append_assoc, add-one, arith}
use Rattle.std.proofs.lemmas.List.{append-nil}
use Rattle.std.specs.List.{flat_map}

pub mapped : {A B : Type 0} (f : B → List ℕ) (g : A → B) (xs : List A) → flat_map (λ x. f (g x)) xs ≡ flat_map f (map g xs)
mapped f g [] = refl
mapped f g (x ∷ xs) = ap (λ z. f (g x) ++ z) (mapped f g xs)

-- the text of one element more
taken : {A : Type 0} (f : A → List ℕ) (xs : List A) (i : ℕ) (x : A) → i < length xs → x ≡ get_or xs i x → flat_map f (take (suc i) xs) ≡ flat_map f (take i xs) ++ f x
taken f [] i x h e = absurd (omega (arith, h))
taken f (y ∷ ys) zero x h e = append-nil (f y) ∙ ap f (sym e)
taken f (y ∷ ys) (suc i) x h e = ap (λ z. f y ++ z) (taken f ys i x (omega (arith, h)) e) ∙ sym (append_assoc (f y) (flat_map f (take i ys)) (f x))

pub text_next : {A : Type 0} (f : A → List ℕ) (xs : List A) (i : ℕ) (x : A) (o before now : List ℕ) → i < length xs → x ≡ get_or xs i x → before ≡ o ++ flat_map f (take i xs) → now ≡ before ++ f x → now ≡ o ++ flat_map f (take (i + 1) xs)
text_next f xs i x o before now h e so_far put =
    put ∙ ap (λ z. z ++ f x) so_far ∙ append_assoc o (flat_map f (take i xs)) (f x)
    ∙ ap (λ z. o ++ z) (sym (taken f xs i x h e)) ∙ ap (λ n. o ++ flat_map f (take n xs)) (sym (add-one i))

-- five texts, one behind the other
pub five : (o a b c d e n1 n2 n3 n4 n5 : List ℕ) → n1 ≡ o ++ a → n2 ≡ n1 ++ b → n3 ≡ n2 ++ c → n4 ≡ n3 ++ d → n5 ≡ n4 ++ e → n5 ≡ o ++ (a ++ (b ++ (c ++ (d ++ e))))
five o a b c d e n1 n2 n3 n4 n5 h1 h2 h3 h4 h5 = h5 ∙ ap (λ z. z ++ e) (h4 ∙ ap (λ z. z ++ d) (h3 ∙ ap (λ z. z ++ c) (h2 ∙ ap (λ z. z ++ b) h1))) ∙ simp append_assoc
