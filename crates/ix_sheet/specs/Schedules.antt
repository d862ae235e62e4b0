-- Legal schedules and their cost (Longnail, the scheduling problem with chained operators; the inequalities are this project's choice).
-- Times are a function from an operation's number; a list of times is read as one.
use Rattle.std.specs.Prelude.{◌≡◌, ◌≢◌, ℕ, zero, suc, ◌+◌, ◌-◌, ◌*◌, ◌<◌, ◌≤◌, List, [], ◌∷◌, length, slice_index, slice_index_or, sum_by, All, AllPairs, Contains}
use Rattle.ix_sheet.specs.declared.problem.Node.{Node}
use Rattle.ix_sheet.specs.declared.problem.Problem.{Problem}

-- the operation of a number
abbrev pub node_at : Problem → ℕ → Node
node_at p k = slice_index_or p.ops k (record { delay = 0; latency = 0; weight = 0; early = 0; late = 0 })

-- what it costs to keep an operation's result for one time
abbrev pub weight_of : Node → ℕ
weight_of node = node.weight

-- an edge goes from an operation to a later one
abbrev pub IsForward : Problem → ℕ × ℕ → Type 0
IsForward p e = (e.0 < e.1) × (e.1 < length p.ops)

-- a weight is the width of a value
abbrev pub IsWeighed : Node → Type 0
IsWeighed node = (1 ≤ node.weight) × (node.weight ≤ 128)

pub record IsValidProblem (p : Problem) : Type 0 where
  pub few : length p.ops ≤ 65536
  pub weights : All IsWeighed p.ops
  pub forward : All (IsForward p) p.edges
  pub once : AllPairs (λ e f. e ≢ f) p.edges

-- an edge that leaves an operation whose result is there at once
abbrev pub HasFreeEdge : Problem → ℕ → ℕ → Type 0
HasFreeEdge p i j = Contains p.edges (i, j) × ((node_at p i).latency ≡ 0)

-- an operation and then those of the list, each joined to the one before by a free edge
abbrev pub Runs : Problem → ℕ → List ℕ → Type 0
Runs p i [] = Unit {0}
Runs p i (j ∷ rest) = HasFreeEdge p i j × Runs p j rest

-- a path along free edges; one operation is a path
abbrev pub IsFreePath : Problem → List ℕ → Type 0
IsFreePath p [] = ⊥
IsFreePath p (i ∷ rest) = (i < length p.ops) × Runs p i rest

abbrev pub first_of : List ℕ → ℕ
first_of [] = 0
first_of (i ∷ rest) = i

abbrev pub last_after : ℕ → List ℕ → ℕ
last_after i [] = i
last_after i (j ∷ rest) = last_after j rest

abbrev pub last_of : List ℕ → ℕ
last_of [] = 0
last_of (i ∷ rest) = last_after i rest

-- the delays of the operations of a path, one after the other
abbrev pub delay_along : Problem → List ℕ → ℕ
delay_along p path = sum_by (λ k. (node_at p k).delay) path

-- the delays along each path within one time come to at most the period
abbrev pub KeepsPeriod : Problem → (ℕ → ℕ) → Type 0
KeepsPeriod p t = (path : List ℕ) → IsFreePath p path → All (λ k. t k ≡ t (first_of path)) path → delay_along p path ≤ p.period

abbrev pub IsInWindow : Node → ℕ → Type 0
IsInWindow node time = (node.early ≤ time) × (time ≤ node.late)

-- the second operation's time is not before the first one's result
abbrev pub IsAfter : Problem → (ℕ → ℕ) → ℕ × ℕ → Type 0
IsAfter p t e = t e.0 + (node_at p e.0).latency ≤ t e.1

-- each time is in its window, after the times that it waits for, and no period is passed
pub record IsLegal (p : Problem) (t : ℕ → ℕ) : Type 0 where
  pub windows : (k : ℕ) → k < length p.ops → IsInWindow (node_at p k) (t k)
  pub edges : All (IsAfter p t) p.edges
  pub period : KeepsPeriod p t

-- there is one time for each operation, and they are legal
pub record IsSchedule (p : Problem) (times : List ℕ) : Type 0 where
  pub count : length times ≡ length p.ops
  pub legal : IsLegal p (slice_index times)

abbrev pub HasSchedule : Problem → Type 0
HasSchedule p = (t : ℕ → ℕ) × IsLegal p t

-- f 0 + .. + f (n - 1)
abbrev pub sum_below : (ℕ → ℕ) → ℕ → ℕ
sum_below f zero = 0
sum_below f (suc n) = sum_below f n + f n

-- how long an operation's result is kept for an edge, by its weight
abbrev pub kept_along : Problem → (ℕ → ℕ) → ℕ × ℕ → ℕ
kept_along p t e = weight_of (node_at p e.0) * (t e.1 - (t e.0 + (node_at p e.0).latency))

-- the sum of the times, and of the lifetimes of the results
abbrev pub cost : Problem → (ℕ → ℕ) → ℕ
cost p t = sum_below t (length p.ops) + sum_by (kept_along p t) p.edges

-- legal, and no legal schedule costs less
pub record IsCheapest (p : Problem) (t : ℕ → ℕ) : Type 0 where
  pub legal : IsLegal p t
  pub cheapest : (u : ℕ → ℕ) → IsLegal p u → cost p t ≤ cost p u

-- the pointwise least of these
pub record IsChosen (p : Problem) (t : ℕ → ℕ) : Type 0 where
  pub cheapest : IsCheapest p t
  pub least : (u : ℕ → ℕ) → IsCheapest p u → (k : ℕ) → k < length p.ops → t k ≤ u k
