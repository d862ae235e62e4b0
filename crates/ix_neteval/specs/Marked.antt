-- Which signals have changed since all cells had the values of their right sides (this project's choice).
use Rattle.std.specs.Prelude.{ℕ, ◌≡◌, ◌+◌, ◌<◌, ◌≤◌, List, length, Bool, false, slice_index, slice_index_or, Contains, ◌⊎◌}
use Rattle.ix_net.specs.declared.gates.Gate.{Gate}
use Rattle.ix_neteval.specs.Wired.{GateHolds}

-- the signal is marked
abbrev pub is_marked : List Bool → ℕ → Bool
is_marked marks s = slice_index_or marks s false

-- the signal is no cell, or one of these cells
abbrev pub IsDone : ℕ → ℕ → List ℕ → ℕ → Type 0
IsDone first cells done s = (s < first) ⊎ ((first + cells ≤ s) ⊎ ((k : ℕ) × Contains done k × (s ≡ first + k)))

-- each cell had the value of its right side; since then the other cells have not changed, and of the rest and of these cells only what is marked has
pub record IsMarked (first : ℕ) (gates : List Gate) (widths done : List ℕ) (marks : List Bool) (values : List ℕ) : Type 0 where
  pub before : List ℕ
  pub held : (k : ℕ) → k < length gates → GateHolds first gates widths before k
  pub waiting : (k : ℕ) → k < length gates → (Contains done k → ⊥) → slice_index values (first + k) ≡ slice_index before (first + k)
  pub same : (s : ℕ) → IsDone first (length gates) done s → is_marked marks s ≡ false → slice_index values s ≡ slice_index before s
