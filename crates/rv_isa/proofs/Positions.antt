-- The first place that passes a test.
use Rattle.std.proofs.Common.{ℕ, suc, zero, ◌<◌, ◌≤◌, ◌≡◌, Bool, false, List, [], ◌∷◌, length, get_or, None, arith}
use Rattle.std.specs.List.{position, position_or_len}
use Rattle.std.proofs.lemmas.Grind.{common_steps}

-- where no place passes, each place fails
pub fails_from_length : {X : Type 0} (p : X → Bool) (xs : List X) (k : ℕ) (d : X) →
    length xs ≤ position_or_len p xs → k < length xs → p (get_or xs k d) ≡ false
fails_from_length p [] k d h within = absurd (omega arith)
fails_from_length p (x ∷ xs) zero d h within = grind (arith, common_steps)
fails_from_length p (x ∷ xs) (suc k) d h within =
    let rest : length xs ≤ position_or_len p xs = grind (arith, common_steps) in
    fails_from_length p xs k d rest (omega arith)

-- no place was found
pub length_from_None : {X : Type 0} (p : X → Bool) (xs : List X) → position p xs ≡ None → length xs ≤ position_or_len p xs
length_from_None p xs e = grind arith
