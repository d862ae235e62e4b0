-- Trees of steps that times meet with equality (tight arcs of a residual network; that trees are kept as a log is this project's choice).
use Rattle.std.specs.Prelude.{ℕ, Bool, true, Option, Some, None, ◌≡◌, ◌+◌, ◌≤◌, ◌<◌, if◌then◌else◌, List, length, slice_index_or, All}
use Rattle.ix_sheet.specs.declared.problem.Arc.{Arc}
use Rattle.ix_sheet.specs.Bounds.{IsTight}
use Rattle.ix_solve.specs.declared.network.Network.{Network}
use Rattle.ix_solve.specs.declared.forest.Branch.{Branch}
use Rattle.ix_solve.specs.declared.forest.Forest.{Forest}
use Rattle.ix_solve.specs.Search.{arc_at}
use Rattle.ix_solve.specs.Networks.{step_from, step_to}

-- a list for each node up to n, of places below m
pub record AreTouching (n m : ℕ) (lists : List (List ℕ)) : Type 0 where
  pub len : length lists ≡ n + 1
  pub within : All (All (λ k. k < m)) lists

-- what is read past the end of a log
abbrev pub no_branch : Branch
no_branch = record { node = 0; parent = 0; place = 0; along = true }

-- the entry of a number
abbrev pub branch_at : List Branch → ℕ → Branch
branch_at log k = slice_index_or log k no_branch

-- the number of the entry of a node, if it is reached
abbrev pub entry_at : List (Option ℕ) → ℕ → Option ℕ
entry_at entries v = slice_index_or entries v None

-- each entry is that of its node, one of the first n, and each node has its own
pub record AreEntries (n : ℕ) (log : List Branch) (entries : List (Option ℕ)) : Type 0 where
  pub len : length entries ≡ n
  pub found : (v k : ℕ) → entry_at entries v ≡ Some k → (k < length log) × ((branch_at log k).node ≡ v)
  pub known : (k : ℕ) → k < length log → ((branch_at log k).node < n) × (entry_at entries (branch_at log k).node ≡ Some k)

-- a step leads from the entry before to the node of the entry k, by an inequality that the times meet with equality
pub record IsBranch (arcs : List Arc) (m : ℕ) (t : ℕ → ℕ) (log : List Branch) (k : ℕ) : Type 0 where
  pub earlier : (branch_at log k).parent < k
  pub within : (branch_at log k).place < m
  pub joined : step_from arcs ((branch_at log k).place, (branch_at log k).along) ≡ (branch_at log (branch_at log k).parent).node
  pub ends : step_to arcs ((branch_at log k).place, (branch_at log k).along) ≡ (branch_at log k).node
  pub tight : IsTight t (arc_at arcs (branch_at log k).place)

-- entries of n nodes, to each of which but for the first ones a step leads
pub record AreTrees (n m : ℕ) (arcs : List Arc) (t : ℕ → ℕ) (roots : ℕ) (log : List Branch) (entries : List (Option ℕ)) : Type 0 where
  pub listed : AreEntries n log entries
  pub begun : roots ≤ length log
  pub grown : (k : ℕ) → roots ≤ k → k < length log → IsBranch arcs m t log k

-- .. over the inequalities of a network that are not turned round
abbrev pub IsForest : Network → (ℕ → ℕ) → Forest → Type 0
IsForest net t f = AreTrees (net.root + 1) net.bounds net.arcs.items t f.roots f.log.items f.entries.items

-- a step by the inequality leads from the node to the next one
abbrev pub IsOnward : Arc → ℕ → ℕ × Bool → Type 0
IsOnward a v next = ((if next.1 then a.from else a.to) ≡ v) × ((if next.1 then a.to else a.from) ≡ next.0)
