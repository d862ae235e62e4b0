-- A list that is made from another, element by element.
use Rattle.std.proofs.Common.{◌≡◌, ℕ, ◌+◌, ◌<◌, ◌≤◌, List, [], ◌∷◌, ◌++◌, length, get_or, drop, map, refl, ap, sym, ◌∙◌, append_assoc, drop-cons, add-one}
use Rattle.std.proofs.lemmas.List.{map-append, append-nil, drop_all}

-- one more is made: what is made and what is to be made stay together the same
pub mapped_step : {A B C : Type 0} (f : A → C) (g : B → C) (out : List A) (xs : List B) (k : ℕ) (x : B) (y : A) → k < length xs → x ≡ get_or xs k x → f y ≡ g x
    → map f (out ++ y ∷ []) ++ map g (drop (k + 1) xs) ≡ map f out ++ map g (drop k xs)
mapped_step f g out xs k x y h e s =
    let r : map g (drop k xs) ≡ g x ∷ map g (drop (k + 1) xs) = rw (add-one, drop-cons xs k x, ← e) refl in
    rw (map-append f out (y ∷ []), append_assoc, r, s) refl

pub mapped_end : {A B C : Type 0} (f : A → C) (g : B → C) (out : List A) (xs : List B) (k : ℕ) → length xs ≤ k → map f out ++ map g (drop k xs) ≡ map g xs → map f out ≡ map g xs
mapped_end f g out xs k h e = sym (append-nil (map f out)) ∙ ap (λ (ys : List _). map f out ++ map g ys) (sym (drop_all k xs h)) ∙ e

pub map_twice : {A B C : Type 0} (f : A → B) (g : B → C) (xs : List A) → map g (map f xs) ≡ map (λ x. g (f x)) xs
map_twice f g [] = refl
map_twice f g (x ∷ xs) = ap (λ (ys : List _). g (f x) ∷ ys) (map_twice f g xs)
