-- For how many rows a memory waits in each access (this project's choice).
use Rattle.std.specs.Prelude.{ℕ, ◌≤◌, List, [], ◌∷◌, get_or, max}

-- the greatest count of waits
abbrev pub most_waits : ℕ
most_waits = 65536

-- the wait of the access of this number, from 0; accesses past the last wait do not wait
abbrev pub wait_at : List ℕ → ℕ → ℕ
wait_at waits access = get_or waits access 0

-- the greatest wait, 0 where there is none
abbrev pub greatest : List ℕ → ℕ
greatest [] = 0
greatest (rows ∷ waits) = max rows (greatest waits)

-- no access waits longer
abbrev pub BoundLaw : Type 0
BoundLaw = (waits : List ℕ) (access : ℕ) → wait_at waits access ≤ greatest waits
