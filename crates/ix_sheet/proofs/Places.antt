-- A write of one more place of a list.
use Rattle.std.proofs.Common.{◌≢◌, ℕ, ◌<◌, ◌+◌, List, length, get_or, arith, below_more, get_or-set_other, get_or-set_same}
use Rattle.std.proofs.Math.ListN.{set}

-- what holds of each place before n, and of the value that is written there, holds of each place up to n
pub set_more : {X : Type 0} (P : ℕ → X → Type 0) (xs : List X) (n : ℕ) (v d : X) → n < length xs →
    ((k : ℕ) → k < n → P k (get_or xs k d)) → P n v → (k : ℕ) → k < n + 1 → P k (get_or (set xs n v) k d)
set_more P xs n v d within before here =
    below_more (λ k. P k (get_or (set xs n v) k d)) n
    (λ k h. let other : k ≢ n = omega arith in rw get_or-set_other (before k h))
    (rw get_or-set_same here)
