-- Lists of which no two elements are related, and elements of mapped lists.
use Rattle.std.proofs.Common.{◌≡◌, ℕ, zero, suc, ◌<◌, List, [], ◌∷◌, ◌++◌, length, map, get_or, refl, subst, arith, inl, inr}
use Rattle.std.specs.Prelude.{◌⊎◌, All, AllPairs, Contains}
use Rattle.std.proofs.lemmas.List.Kept.{AllPairs-cons}
use Rattle.std.proofs.lemmas.List.Elements.{All-contains_itself, Contains-append_left, Contains-append_right, Contains-append_cases}
use Rattle.ix_net.proofs.NetLemmas.{contains_from_slice_get, slice_get_from_contains, slice_get_mapped}

-- a mapped element
pub contains_mapped : {X Y : Type 0} (f : X → Y) (xs : List X) (x : X) → Contains xs x → Contains (map f xs) (f x)
contains_mapped f xs x c = contains_from_slice_get (map f xs) c.0 (f x) (slice_get_mapped f xs c.0 x (slice_get_from_contains xs x c))

-- what holds of each element that is contained holds of all
pub all_of : {X : Type 0} (P : X → Type 0) (xs : List X) → ((x : X) → Contains xs x → P x) → All P xs
all_of P xs h k d l = h _ (All-contains_itself xs k d l)

-- ---- lists of which no two elements are related
pub pairs_head : {X : Type 0} (R : X → X → Type 0) (x : X) (xs : List X) → AllPairs R (x ∷ xs) → (y : X) → Contains xs y → R x y
pairs_head R x xs h y c =
    let r : R x (get_or xs c.0 y) = h 0 (suc c.0) y (omega arith) (omega (arith, c.1)) in
    subst (R x) c.2 r

pub pairs_tail : {X : Type 0} (R : X → X → Type 0) (x : X) (xs : List X) → AllPairs R (x ∷ xs) → AllPairs R xs
pairs_tail R x xs h i j d l k = h (suc i) (suc j) d (omega arith) (omega arith)

pub pairs_cons : {X : Type 0} (R : X → X → Type 0) (x : X) (xs : List X) → ((y : X) → Contains xs y → R x y) → AllPairs R xs → AllPairs R (x ∷ xs)
pairs_cons R x xs f h = AllPairs-cons R x xs (all_of (R x) xs f) h

pub pairs_left : {X : Type 0} (R : X → X → Type 0) (xs ys : List X) → AllPairs R (xs ++ ys) → AllPairs R xs
pairs_left R [] ys h = λ i j d l k. absurd (omega arith)
pairs_left R (x ∷ xs) ys h =
    pairs_cons R x xs (λ y c. pairs_head R x (xs ++ ys) h y (Contains-append_left xs ys y c)) (pairs_left R xs ys (pairs_tail R x (xs ++ ys) h))

pub pairs_right : {X : Type 0} (R : X → X → Type 0) (xs ys : List X) → AllPairs R (xs ++ ys) → AllPairs R ys
pairs_right R [] ys h = h
pairs_right R (x ∷ xs) ys h = pairs_right R xs ys (pairs_tail R x (xs ++ ys) h)

pub head_case : {X : Type 0} (x : X) (xs : List X) (y : X) → Contains (x ∷ xs) y → (x ≡ y) ⊎ Contains xs y
head_case x xs y c = go c.0 c.1 c.2
  where
    go : (k : ℕ) → k < length (x ∷ xs) → get_or (x ∷ xs) k y ≡ y → (x ≡ y) ⊎ Contains xs y
    go zero l e = inl e
    go (suc k) l e = inr (k, omega arith, e)

pub pairs_cross : {X : Type 0} (R : X → X → Type 0) (xs ys : List X) → AllPairs R (xs ++ ys) → (x y : X) → Contains xs x → Contains ys y → R x y
pairs_cross R [] ys h x y c d = absurd (omega (arith, c.1))
pairs_cross R (z ∷ xs) ys h x y c d = elim (head_case z xs x c) [
  | inl e ↦ subst (λ w. R w y) e (pairs_head R z (xs ++ ys) h y (Contains-append_right xs ys y d))
  | inr k ↦ pairs_cross R xs ys (pairs_tail R z (xs ++ ys) h) x y k d
]

pub pairs_append : {X : Type 0} (R : X → X → Type 0) (xs ys : List X) → AllPairs R xs → AllPairs R ys → ((x y : X) → Contains xs x → Contains ys y → R x y) → AllPairs R (xs ++ ys)
pairs_append R [] ys h k f = k
pairs_append R (x ∷ xs) ys h k f =
    pairs_cons R x (xs ++ ys)
    (λ y c. elim (Contains-append_cases xs ys y c) [
      | inl a ↦ pairs_head R x xs h y a
      | inr b ↦ f x y (0, omega arith, refl) b
    ])
    (pairs_append R xs ys (pairs_tail R x xs h) k (λ a b c d. f a b (suc c.0, omega (arith, c.1), c.2) d))

-- an element of a mapped list
pub mapped_back : {X Y : Type 0} (f : X → Y) (xs : List X) (y : Y) → Contains (map f xs) y → (x : X) × Contains xs x × (f x ≡ y)
mapped_back f [] y c = absurd (omega (arith, c.1))
mapped_back f (x ∷ xs) y c = elim (head_case (f x) (map f xs) y c) [
  | inl e ↦ (x, (0, omega arith, refl), e)
  | inr k ↦ (let r = mapped_back f xs y k in (r.0, (suc r.1.0, omega (arith, r.1.1), r.1.2), r.2))
]
