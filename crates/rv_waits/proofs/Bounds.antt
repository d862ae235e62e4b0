-- The wait of each access beside the greatest one.
use Rattle.std.proofs.Common.{ℕ, zero, suc, ◌≤◌, List, [], ◌∷◌, arith}
use Rattle.rv_waits.specs.Waits.{wait_at, greatest}

pub wait_bounded : (waits : List ℕ) (access : ℕ) → wait_at waits access ≤ greatest waits
wait_bounded [] access = omega arith
wait_bounded (rows ∷ waits) zero = omega arith
wait_bounded (rows ∷ waits) (suc access) = let ih = wait_bounded waits access in omega (arith, ih)
