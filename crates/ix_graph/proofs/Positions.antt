-- The first place that passes a test.
use Rattle.std.proofs.Common.{ℕ, ◌<◌, ◌≡◌, Bool, true, false, List, length, get_or, Some, None, arith}
use Rattle.std.specs.List.{position, position_or_len}
use Rattle.std.proofs.lemmas.List.Sums.{position_or_len_is}
use Rattle.std.proofs.lemmas.Bool.{lt-ltb, le-ltb}

-- the first place is one that passes and has none before it that does
pub position-at : {X : Type 0} (p : X → Bool) (xs : List X) (i : ℕ) (d : X) →
    i < length xs → ((k : ℕ) → k < i → p (get_or xs k d) ≡ false) → p (get_or xs i d) ≡ true → position p xs ≡ Some i
position-at p xs i d within before here =
    let first : position_or_len p xs ≡ i = position_or_len_is p xs i d (omega arith) before (λ _. here) in
    rw (first, lt-ltb i (length xs) within)

-- there is no place where none passes
pub position-none : {X : Type 0} (p : X → Bool) (xs : List X) (d : X) →
    ((k : ℕ) → k < length xs → p (get_or xs k d) ≡ false) → position p xs ≡ None
position-none p xs d before =
    let first : position_or_len p xs ≡ length xs = position_or_len_is p xs (length xs) d (omega arith) before (λ h. absurd (omega arith)) in
    rw (first, le-ltb (length xs) (length xs) (omega arith))
