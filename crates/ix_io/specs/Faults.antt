-- Counts of faults, from 0 to 2^64 - 1, which never fall (this project's choice).
use Rattle.std.specs.Prelude.{ℕ, ◌+◌, ◌-◌, ◌^◌, ◌<◌, ◌≤◌, List, min}

-- the count rose: it is greater than before, or it stands at the last value 2^64 - 1
abbrev pub Rose : ℕ → ℕ → Type 0
Rose before now = min (before + 1) (2 ^ 64 - 1) ≤ now

-- the count of no name fell
abbrev pub NoneFell : (List ℕ → ℕ) → (List ℕ → ℕ) → Type 0
NoneFell before now = (name : List ℕ) → before name ≤ now name

-- the count of each name is one of the values of a count
abbrev pub AllInRange : (List ℕ → ℕ) → Type 0
AllInRange counts = (name : List ℕ) → counts name < 2 ^ 64
