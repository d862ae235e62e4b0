-- Sums over the operations and over lists.
use Rattle.std.proofs.Common.{◌≡◌, ◌≢◌, ℕ, zero, suc, ◌+◌, ◌*◌, ◌≤◌, ◌<◌, ◌==◌, List, [], ◌∷◌, cond, refl, ◌∙◌, arith, ◌⊎◌, inl, inr}
use Rattle.std.specs.Prelude.{sum_by, All}
use Rattle.std.proofs.lemmas.List.Sums.{sum_by-cons}
use Rattle.std.proofs.lemmas.List.Elements.{All-head, All-tail, All-nil, All-cons}
use Rattle.std.proofs.lemmas.Bool.Decides.{nat_tests}
use Rattle.ix_sheet.specs.Schedules.{sum_below}
use Rattle.ix_sheet.specs.Bounds.{amount_at}

pub below-add : (f g : ℕ → ℕ) (n : ℕ) → sum_below (λ v. f v + g v) n ≡ sum_below f n + sum_below g n
below-add f g zero = refl
below-add f g (suc n) = omega (arith, below-add f g n)

pub below-same : (f g : ℕ → ℕ) (n : ℕ) → ((v : ℕ) → v < n → f v ≡ g v) → sum_below f n ≡ sum_below g n
below-same f g zero h = refl
below-same f g (suc n) h = omega (arith, below-same f g n (λ v b. h v (omega arith)), h n (omega arith))

pub below-none : (f : ℕ → ℕ) (n : ℕ) → ((v : ℕ) → v < n → f v ≡ 0) → sum_below f n ≡ 0
below-none f zero h = refl
below-none f (suc n) h = omega (arith, below-none f n (λ v b. h v (omega arith)), h n (omega arith))

other_point : (k v a x : ℕ) → k ≢ v → x * cond (k == v) a 0 ≡ 0
other_point k v a x ne = grind (arith, nat_tests)

same_point : (k a x : ℕ) → x * cond (k == k) a 0 ≡ x * a
same_point k a x = grind (arith, nat_tests)

or_last : (k n : ℕ) → k < suc n → (k < n) ⊎ (k ≡ n)
or_last k n h = grind arith

-- the one term at k
below-point : (t : ℕ → ℕ) (k a n : ℕ) → k < n → sum_below (λ v. t v * cond (k == v) a 0) n ≡ t k * a
below-point t k a zero h = omega arith
below-point t k a (suc n) h =
    elim (or_last k n h) [
      | inl low ↦ omega (arith, below-point t k a n low, other_point k n a (t n) (omega arith))
      | inr last ↦ rw (← last) (omega (arith, same_point k a (t k), below-none (λ v. t v * cond (k == v) a 0) k (λ v b. other_point k v a (t v) (omega arith))))
    ]

zero_times : (x a : ℕ) → x ≡ 0 → x * a ≡ 0
zero_times x a e = rw e (omega arith)

-- the same, where the root n has time 0
below-node : (t : ℕ → ℕ) (k a n : ℕ) → t n ≡ 0 → k ≤ n → sum_below (λ v. t v * cond (k == v) a 0) n ≡ t k * a
below-node t k a n root h =
    elim (or_last k n (omega arith)) [
      | inl low ↦ below-point t k a n low
      | inr last ↦ rw last (omega (arith, root, below-none (λ v. t v * cond (n == v) a 0) n (λ v b. other_point n v a (t v) (omega arith)), zero_times (t n) a root))
    ]

-- counted by operation or by member, the weighted amounts are the same
pub weigh : {X : Type 0} (place amount : X → ℕ) (t : ℕ → ℕ) (n : ℕ) → t n ≡ 0 → (xs : List X) → All (λ x. place x ≤ n) xs →
    sum_below (λ v. t v * amount_at place amount xs v) n ≡ sum_by (λ x. t (place x) * amount x) xs
weigh place amount t n root [] inside = below-none (λ v. t v * 0) n (λ v b. omega arith)
weigh place amount t n root (x ∷ xs) inside =
    rw sum_by-cons
    (below-same (λ v. t v * amount_at place amount (x ∷ xs) v) (λ v. t v * cond (place x == v) (amount x) 0 + t v * amount_at place amount xs v) n
    (λ v b. rw sum_by-cons (omega arith))
    ∙ (below-add (λ v. t v * cond (place x == v) (amount x) 0) (λ v. t v * amount_at place amount xs v) n
    ∙ omega (arith, below-node t (place x) (amount x) n root (All-head (λ y. place y ≤ n) x xs inside), weigh place amount t n root xs (All-tail (λ y. place y ≤ n) x xs inside))))

pub sum_by-le_each : {X : Type 0} (f g : X → ℕ) (xs : List X) → All (λ x. f x ≤ g x) xs → sum_by f xs ≤ sum_by g xs
sum_by-le_each f g [] h = omega arith
sum_by-le_each f g (x ∷ xs) h =
    rw (sum_by-cons f x xs, sum_by-cons g x xs)
    (omega (arith, All-head (λ y. f y ≤ g y) x xs h, sum_by-le_each f g xs (All-tail (λ y. f y ≤ g y) x xs h)))

pub sum_by-add : {X : Type 0} (f g : X → ℕ) (xs : List X) → sum_by (λ x. f x + g x) xs ≡ sum_by f xs + sum_by g xs
sum_by-add f g [] = refl
sum_by-add f g (x ∷ xs) =
    rw (sum_by-cons (λ y. f y + g y) x xs, sum_by-cons f x xs, sum_by-cons g x xs) (omega (arith, sum_by-add f g xs))

pub sum_by-same_each : {X : Type 0} (f g : X → ℕ) (xs : List X) → All (λ x. f x ≡ g x) xs → sum_by f xs ≡ sum_by g xs
sum_by-same_each f g [] h = refl
sum_by-same_each f g (x ∷ xs) h =
    rw (sum_by-cons f x xs, sum_by-cons g x xs)
    (omega (arith, All-head (λ y. f y ≡ g y) x xs h, sum_by-same_each f g xs (All-tail (λ y. f y ≡ g y) x xs h)))

-- where each is at most the other and the sums are equal, each is equal
pub equal_each : {X : Type 0} (f g : X → ℕ) (xs : List X) → All (λ x. f x ≤ g x) xs → sum_by g xs ≤ sum_by f xs → All (λ x. f x ≡ g x) xs
equal_each f g [] h e = All-nil (λ y. f y ≡ g y)
equal_each f g (x ∷ xs) h e =
    let here : f x ≤ g x = All-head (λ y. f y ≤ g y) x xs h in
    let rest = All-tail (λ y. f y ≤ g y) x xs h in
    let below = sum_by-le_each f g xs rest in
    let both : g x + sum_by g xs ≤ f x + sum_by f xs = rw (sum_by-cons f x xs, sum_by-cons g x xs) at e in
    All-cons (λ y. f y ≡ g y) x xs (omega arith) (equal_each f g xs rest (omega arith))
