-- Orders of cells in which each stands behind those that it reads. Cell k is the signal with number first + k.
use Rattle.std.specs.Prelude.{ℕ, ◌≡◌, ◌≢◌, ◌+◌, ◌<◌, List, length, take, slice_index_or, All, Contains}
use Rattle.ix_net.specs.declared.gates.Gate.{Gate}
use Rattle.ix_net.specs.declared.gates.Gate.TheVariants.{Hex}
use Rattle.ix_net.specs.declared.ordering.Mark.{Mark}
use Rattle.ix_net.specs.declared.ordering.Mark.TheVariants.{New, Open, Done}
use Rattle.ix_net.specs.Chain.{Chain}
use Rattle.ix_net.specs.Gates.{reads_of}

-- the right side of a cell
abbrev pub gate_at : List Gate → ℕ → Gate
gate_at gates k = slice_index_or gates k (Hex 0)

-- cell b reads cell a
pub record Reads (first : ℕ) (gates : List Gate) (a b : ℕ) : Type 0 where
  pub source : a < length gates
  pub reader : b < length gates
  pub reads : Contains (reads_of (gate_at gates b)) (first + a)

-- each cell stands behind those that it reads
pub record IsOrdered (first : ℕ) (gates : List Gate) (order : List ℕ) : Type 0 where
  pub cells : All (λ k. k < length gates) order
  pub behind : (i a : ℕ) → i < length order → Reads first gates a (slice_index_or order i 0) → Contains (take i order) a

-- such an order of all cells
pub record IsOrder (first : ℕ) (gates : List Gate) (order : List ℕ) : Type 0 where
  pub ordered : IsOrdered first gates order
  pub whole : (k : ℕ) → k < length gates → Contains order k

-- the mark of a cell
abbrev pub mark_at : List Mark → ℕ → Mark
mark_at marks k = slice_index_or marks k New

-- a cell depends on itself
abbrev pub HasLoop : ℕ → List Gate → Type 0
HasLoop first gates = (k : ℕ) × Chain (Reads first gates) k k

-- cell k is one of these and is not done
abbrev pub Waits : (ℕ → Type 0) → List Mark → ℕ → Type 0
Waits Is marks k = (k < length marks) × Is k × (mark_at marks k ≢ Done)

-- all of these cells are done
abbrev pub AreDone : (ℕ → Type 0) → List Mark → Type 0
AreDone Is marks = (k : ℕ) → k < length marks → Is k → mark_at marks k ≡ Done

-- between two searches no cell is open, and those that are done stand in the order
pub record IsResting (first : ℕ) (gates : List Gate) (marks : List Mark) (order : List ℕ) : Type 0 where
  pub shut : (k : ℕ) → mark_at marks k ≢ Open
  pub done : (k : ℕ) → mark_at marks k ≡ Done → Contains order k
  pub ordered : IsOrdered first gates order

-- what is not new stays so
abbrev pub StaysSeen : List Mark → List Mark → Type 0
StaysSeen old new = (k : ℕ) → mark_at old k ≢ New → mark_at new k ≢ New

-- a search from a root ends with the root seen
abbrev pub Visits : ℕ → List Gate → List Mark → List Mark → List ℕ → ℕ → Type 0
Visits first gates old new order root = IsResting first gates new order × StaysSeen old new × (mark_at new root ≢ New)
