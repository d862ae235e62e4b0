-- Elements of lists by their places.
use Rattle.std.proofs.Common.{◌≡◌, ℕ, zero, suc, ◌-◌, ◌<◌, ◌≤◌, List, [], ◌∷◌, ◌++◌, length, map, get_or, slice_get, Option, Some, sym, ap, ◌∙◌, subst}
use Rattle.std.specs.Prelude.{All}
use Rattle.std.proofs.lemmas.List.{length-map, get_or-append_right, get_or-map}
use Rattle.std.proofs.lemmas.List.Elements.{All-head, All-tail}

same : {A : Type 0} (a b : A) → ◌≡◌ {A = Option A} (Some a) (Some b) → a ≡ b
same a b e = cc

-- what holds of each element holds of the one in a place
pub at_place : {A : Type 0} (P : A → Type 0) (xs : List A) (k : ℕ) (x : A) → All P xs → slice_get xs k ≡ Some x → P x
at_place P [] k x all e = absurd cc
at_place P (y ∷ ys) zero x all e = subst P (same y x e) (All-head P y ys all)
at_place P (y ∷ ys) (suc k) x all e = at_place P ys k x (All-tail P y ys all) e

-- the element in a place of the first of two lists, after a function
pub in_front : {A B : Type 0} (f : A → B) (xs : List A) (ys : List B) (k : ℕ) (x : A) (d : B) → slice_get xs k ≡ Some x → get_or (map f xs ++ ys) k d ≡ f x
in_front f [] ys k x d e = absurd cc
in_front f (y ∷ xs) ys zero x d e = ap f (same y x e)
in_front f (y ∷ xs) ys (suc k) x d e = in_front f xs ys k x d e

-- and of the second
pub behind : {A B C : Type 0} (f : A → C) (g : B → C) (xs : List A) (ys : List B) (n k : ℕ) (y : B) (d : C) → length xs ≡ n → n ≤ k → k - n < length ys → y ≡ get_or ys (k - n) y → get_or (map f xs ++ map g ys) k d ≡ g y
behind f g xs ys n k y d len past within is =
    get_or-append_right (map f xs) (map g ys) n k d (length-map xs f ∙ len) past ∙ get_or-map g ys (k - n) y d within ∙ ap g (sym is)
