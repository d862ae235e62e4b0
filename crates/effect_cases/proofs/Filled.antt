-- Lists that are filled place by place.
use Rattle.std.proofs.Common.{ℕ, zero, suc, ◌+◌, ◌<◌, List, [], ◌∷◌, length, set, arith}
use Rattle.std.specs.Prelude.{IfSome, slice_get}

-- one more place
pub filled_more : {A : Type 0} (P : ℕ → A → Type 0) (xs : List A) (n : ℕ) (v : A) → n < length xs → ((r : ℕ) → r < n → IfSome (slice_get xs r) (P r)) → P n v → (r : ℕ) → r < n + 1 → IfSome (slice_get (set xs n v) r) (P r)
filled_more P [] n v h all here r l = absurd (omega (arith, h))
filled_more P (x ∷ xs) zero v h all here zero l = here
filled_more P (x ∷ xs) zero v h all here (suc r) l = absurd (omega (arith, l))
filled_more P (x ∷ xs) (suc n) v h all here zero l = all 0 (omega arith)
filled_more P (x ∷ xs) (suc n) v h all here (suc r) l = filled_more (λ k. P (suc k)) xs n v (omega (arith, h)) (λ k g. all (suc k) (omega (arith, g))) here r (omega (arith, l))

-- all places
pub filled : {A : Type 0} (P : ℕ → A → Type 0) (xs : List A) → ((r : ℕ) → r < length xs → IfSome (slice_get xs r) (P r)) → (r : ℕ) → IfSome (slice_get xs r) (P r)
filled P [] all zero = tt
filled P [] all (suc r) = tt
filled P (x ∷ xs) all zero = all 0 (omega arith)
filled P (x ∷ xs) all (suc r) = filled (λ k. P (suc k)) xs (λ k g. all (suc k) (omega (arith, g))) r
