-- The order in which a depth-first search leaves the cells behind. The relation says which cell feeds which.
use Rattle.std.specs.Prelude.{◌≡◌, ◌⊎◌, ℕ, ◌<◌, ◌≤◌, List, Bool, true, false, length, take, slice_index_or, All, Contains}
use Rattle.ix_net.specs.Chain.{Chain}
use Rattle.ix_vread.specs.Graphs.{Edge}

-- cell b is cell a, or depends on it
abbrev pub Follows : (ℕ → ℕ → Type 0) → ℕ → ℕ → Type 0
Follows Feeds a b = (a ≡ b) ⊎ Chain Feeds a b

-- the cells that the search has left, the first one first
pub record AreLeft (Feeds : ℕ → ℕ → Type 0) (count : ℕ) (order : List ℕ) : Type 0 where
  pub cells : All (λ k. k < count) order
  pub once : (i : ℕ) → i < length order → Contains (take i order) (slice_index_or order i 0) → ⊥
  -- when a cell is left, what feeds it or a cell that was left before is left too, or still open: then it depends on the cell that is left
  pub turned : (i k a : ℕ) → i ≤ k → k < length order → Feeds a (slice_index_or order i 0) → Contains (take k order) a ⊎ Follows Feeds (slice_index_or order k 0) a

-- all cells, in such an order
pub record IsOrder (Feeds : ℕ → ℕ → Type 0) (count : ℕ) (order : List ℕ) : Type 0 where
  pub left : AreLeft Feeds count order
  pub whole : (k : ℕ) → k < count → Contains order k

-- the search has come to the cell
abbrev pub IsMarked : List Bool → ℕ → Type 0
IsMarked marks k = slice_index_or marks k false ≡ true

-- between two searches all cells that are marked are left, and what feeds them is marked
pub record IsResting (graph : List (List ℕ)) (marks : List Bool) (order : List ℕ) : Type 0 where
  pub size : length marks ≡ length graph
  pub left : AreLeft (Edge graph) (length graph) order
  pub placed : (k : ℕ) → IsMarked marks k → Contains order k
  pub marked : (k : ℕ) → Contains order k → IsMarked marks k
  pub closed : (a b : ℕ) → Contains order b → Edge graph a b → IsMarked marks a

-- the search from one more root is done
pub record Leaves (graph : List (List ℕ)) (old marks : List Bool) (order : List ℕ) (root : ℕ) : Type 0 where
  pub resting : IsResting graph marks order
  pub kept : (k : ℕ) → IsMarked old k → IsMarked marks k
  pub root_marked : IsMarked marks root
