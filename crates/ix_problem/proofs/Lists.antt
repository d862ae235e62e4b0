-- Elements of lists, parts of lists, pairs of elements.
use Rattle.std.proofs.Common.{◌≡◌, ℕ, zero, suc, ◌+◌, ◌<◌, Bool, true, false, cond, List, [], ◌∷◌, ◌++◌, get_or, map, refl, sym, ◌∙◌, ap, arith, ◌⊎◌, inl, inr}
use Rattle.std.specs.Prelude.{All, AllPairs, Contains, filter}
use Rattle.std.specs.List.{range_with_len}
use Rattle.std.proofs.lemmas.List.Elements.{All-nil, All-cons, All-head, All-tail, All-append, All-contains, Contains-get_or, Contains-append_left, Contains-append_right, filter-append}
use Rattle.std.proofs.lemmas.List.{append_assoc, map-append}
use Rattle.std.proofs.lemmas.List.Kept.{AllPairs-cons}

pub contains_head : {X : Type 0} (x y : X) (xs : List X) → x ≡ y → Contains (x ∷ xs) y
contains_head x y xs e = (0, omega arith, e)

pub contains_tail : {X : Type 0} (x y : X) (xs : List X) → Contains xs y → Contains (x ∷ xs) y
contains_tail x y xs (k, h, e) = (suc k, omega arith, e)

pub contains_cases : {X : Type 0} (x y : X) (xs : List X) → Contains (x ∷ xs) y → (x ≡ y) ⊎ Contains xs y
contains_cases x y xs (zero, h, e) = inl e
contains_cases x y xs (suc k, h, e) = inr (k, omega arith, e)

pub contains_nothing : {X : Type 0} (y : X) → Contains [] y → ⊥
contains_nothing y (k, h, e) = absurd (omega arith)

pub contains_map : {X Y : Type 0} (f : X → Y) (x : X) (xs : List X) → Contains xs x → Contains (map f xs) (f x)
contains_map f x [] c = absurd (contains_nothing x c)
contains_map f x (y ∷ xs) c = elim (contains_cases y x xs c) [
  | inl same ↦ contains_head (f y) (f x) (map f xs) (ap f same)
  | inr later ↦ contains_tail (f y) (f x) (map f xs) (contains_map f x xs later)
]

-- ---- the parts of a list
pub all_front : {X : Type 0} (P : X → Type 0) (xs ys : List X) → All P (xs ++ ys) → All P xs
all_front P xs ys all k d h = All-contains P (xs ++ ys) (get_or xs k d) all (Contains-append_left xs ys (get_or xs k d) (Contains-get_or xs k d h))

pub all_back : {X : Type 0} (P : X → Type 0) (xs ys : List X) → All P (xs ++ ys) → All P ys
all_back P xs ys all k d h = All-contains P (xs ++ ys) (get_or ys k d) all (Contains-append_right xs ys (get_or ys k d) (Contains-get_or ys k d h))

pub all_unmap : {X Y : Type 0} (P : Y → Type 0) (f : X → Y) (xs : List X) → All P (map f xs) → All (λ x. P (f x)) xs
all_unmap P f [] all = All-nil (λ x. P (f x))
all_unmap P f (x ∷ xs) all = All-cons (λ x. P (f x)) x xs (All-head P (f x) (map f xs) all) (all_unmap P f xs (All-tail P (f x) (map f xs) all))

-- ---- numbers from a on
pub range_push : (a n : ℕ) → range_with_len a (suc n) ≡ range_with_len a n ++ (a + n) ∷ []
range_push a zero = let same : a + 0 ≡ a = omega arith in rw same refl
range_push a (suc n) = let same : a + 1 + n ≡ a + suc n = omega arith in ap (λ (xs : List ℕ). a ∷ xs) (rw same at (range_push (a + 1) n))

pub range_contains : (a n k j : ℕ) → a + k ≡ j → k < n → Contains (range_with_len a n) j
range_contains a zero k j e h = absurd (omega arith)
range_contains a (suc n) zero j e h = contains_head a j (range_with_len (a + 1) n) (omega arith)
range_contains a (suc n) (suc k) j e h = contains_tail a j (range_with_len (a + 1) n) (range_contains (a + 1) n k j (omega arith) (omega arith))

pub range_below : (a n b : ℕ) → a + n ≡ b → All (λ k. k < b) (range_with_len a n)
range_below a zero b e = All-nil (λ k. k < b)
range_below a (suc n) b e = All-cons (λ k. k < b) a (range_with_len (a + 1) n) (omega arith) (range_below (a + 1) n b (omega arith))

-- ---- pairs
pairs_head : {X : Type 0} (R : X → X → Type 0) (x : X) (xs : List X) → AllPairs R (x ∷ xs) → All (R x) xs
pairs_head R x xs h k d within = h 0 (suc k) d (omega arith) (omega arith)

pairs_tail : {X : Type 0} (R : X → X → Type 0) (x : X) (xs : List X) → AllPairs R (x ∷ xs) → AllPairs R xs
pairs_tail R x xs h i j d less within = h (suc i) (suc j) d (omega arith) (omega arith)

pub pairs_append : {X : Type 0} (R : X → X → Type 0) (xs ys : List X) → AllPairs R xs → AllPairs R ys → All (λ x. All (R x) ys) xs → AllPairs R (xs ++ ys)
pairs_append R [] ys a b across = b
pairs_append R (x ∷ xs) ys a b across =
    AllPairs-cons R x (xs ++ ys)
    (All-append (R x) xs ys (pairs_head R x xs a) (All-head (λ y. All (R y) ys) x xs across))
    (pairs_append R xs ys (pairs_tail R x xs a) b (All-tail (λ y. All (R y) ys) x xs across))

-- ---- one number more
more_range : (n : ℕ) → range_with_len 0 (n + 1) ≡ range_with_len 0 n ++ n ∷ []
more_range n = let same : n + 1 ≡ suc n = omega arith in let last : 0 + n ≡ n = omega arith in ap (range_with_len 0) same ∙ range_push 0 n ∙ ap (λ (k : ℕ). range_with_len 0 n ++ k ∷ []) last

pub map_range_push : {X : Type 0} (f : ℕ → X) (xs : List X) (n : ℕ) → (xs ++ map f (range_with_len 0 n)) ++ f n ∷ [] ≡ xs ++ map f (range_with_len 0 (n + 1))
map_range_push f xs n =
    append_assoc xs (map f (range_with_len 0 n)) (f n ∷ [])
    ∙ ap (λ (ys : List _). xs ++ ys) (sym (map-append f (range_with_len 0 n) (n ∷ [])) ∙ ap (map f) (sym (more_range n)))

filter_one : (test : ℕ → Bool) (n : ℕ) (b : Bool) → test n ≡ b → filter test (n ∷ []) ≡ cond b (n ∷ []) []
filter_one test n true e = rw e refl
filter_one test n false e = rw e refl

map_one : {X : Type 0} (f : ℕ → X) (n : ℕ) (b : Bool) → map f (cond b (n ∷ []) []) ≡ cond b (f n ∷ []) []
map_one f n true = refl
map_one f n false = refl

pub picked_push : {X : Type 0} (f : ℕ → X) (test : ℕ → Bool) (xs : List X) (n : ℕ) (b : Bool) → test n ≡ b
    → (xs ++ map f (filter test (range_with_len 0 n))) ++ cond b (f n ∷ []) [] ≡ xs ++ map f (filter test (range_with_len 0 (n + 1)))
picked_push f test xs n b e =
    append_assoc xs (map f (filter test (range_with_len 0 n))) (cond b (f n ∷ []) [])
    ∙ ap (λ (ys : List _). xs ++ ys)
    (ap (λ (ys : List _). map f (filter test (range_with_len 0 n)) ++ ys) (sym (map_one f n b))
    ∙ sym (map-append f (filter test (range_with_len 0 n)) (cond b (n ∷ []) []))
    ∙ ap (map f) (ap (λ (ys : List ℕ). filter test (range_with_len 0 n) ++ ys) (sym (filter_one test n b e)) ∙ sym (filter-append test (range_with_len 0 n) (n ∷ []))
    ∙ ap (filter test) (sym (more_range n))))
