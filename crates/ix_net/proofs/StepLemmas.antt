-- One step of a loop over a list whose elements are read by index.
use Rattle.std.proofs.Common.{◌≡◌, ℕ, ◌+◌, ◌<◌, List, [], ◌∷◌, ◌++◌, length, map, take, get_or, ap, sym, ◌∙◌, subst, All}
use Rattle.std.proofs.lemmas.List.{map_more}
use Rattle.std.proofs.lemmas.List.Elements.{All-more}

-- a fact of each element so far and of the next
pub all_step : {X : Type 0} (P : X → Type 0) (xs : List X) (i : ℕ) (x : X) → i < length xs → x ≡ get_or xs i x → All P (take i xs) → P x → All P (take (i + 1) xs)
all_step P xs i x l read before here = All-more P xs i x l before (subst P read here)

-- a list made of the images so far and of the next
pub map_step :
    {X Y : Type 0} (f : X → Y) (xs : List X) (i : ℕ) (x : X) (old new : List Y) (y : Y) → i < length xs → x ≡ get_or xs i x
    → old ≡ map f (take i xs) → new ≡ old ++ y ∷ [] → y ≡ f x → new ≡ map f (take (i + 1) xs)
map_step f xs i x old new y l read made pushed same =
    pushed ∙ ap (λ ys. ys ++ y ∷ []) made ∙ ap (λ z. map f (take i xs) ++ z ∷ []) (same ∙ ap f read) ∙ sym (map_more f xs i x l)
