-- The bounds of a problem, dual flows and contradictory cycles (linear programming, duality of difference constraints).
use Rattle.std.specs.Prelude.{◌≡◌, ℕ, ◌+◌, ◌*◌, ◌<◌, ◌≤◌, ◌==◌, nat_lt, if◌then◌else◌, List, [], ◌∷◌, length, sum_by, All, Contains}
use Rattle.ix_sheet.specs.declared.problem.Arc.{Arc}
use Rattle.ix_sheet.specs.declared.problem.Bound.{Bound}
use Rattle.ix_sheet.specs.declared.problem.Bound.TheVariants.{Early, Late, Dep, Chain}
use Rattle.ix_sheet.specs.declared.problem.Problem.{Problem}
use Rattle.ix_sheet.specs.Schedules.{node_at, weight_of, IsFreePath, first_of, last_of, delay_along}

-- the bounds of a problem: its windows, its edges, and the paths along free edges whose delays pass the period
abbrev pub IsBoundOf : Problem → Bound → Type 0
IsBoundOf p (Early k) = k < length p.ops
IsBoundOf p (Late k) = k < length p.ops
IsBoundOf p (Dep i j) = Contains p.edges (i, j)
IsBoundOf p (Chain path) = IsFreePath p path × (p.period < delay_along p path)

-- the inequality that a bound is; the root is the number after the last operation
abbrev pub arc_of : Problem → Bound → Arc
arc_of p (Early k) = record { from = length p.ops; to = k; up = (node_at p k).early; down = 0 }
arc_of p (Late k) = record { from = k; to = length p.ops; up = 0; down = (node_at p k).late }
arc_of p (Dep i j) = record { from = i; to = j; up = (node_at p i).latency; down = 0 }
arc_of p (Chain path) = record { from = first_of path; to = last_of path; up = 1; down = 0 }

-- the times of the operations, and 0 for the root
abbrev pub rooted : Problem → (ℕ → ℕ) → ℕ → ℕ
rooted p t k = if nat_lt k (length p.ops) then t k else 0

-- the inequality holds at these times
abbrev pub Meets : (ℕ → ℕ) → Arc → Type 0
Meets t a = t a.from + a.up ≤ t a.to + a.down

abbrev pub IsTight : (ℕ → ℕ) → Arc → Type 0
IsTight t a = t a.from + a.up ≡ t a.to + a.down

-- the inequality turned round, its number negated
abbrev pub turned : Arc → Arc
turned a = record { from = a.to; to = a.from; up = a.down; down = a.up }

abbrev pub MeetsBound : Problem → (ℕ → ℕ) → Bound → Type 0
MeetsBound p t bound = Meets (rooted p t) (arc_of p bound)

abbrev pub IsTightBound : Problem → (ℕ → ℕ) → Bound → Type 0
IsTightBound p t bound = IsTight (rooted p t) (arc_of p bound)

abbrev pub MeetsTurned : Problem → (ℕ → ℕ) → Bound → Type 0
MeetsTurned p t bound = Meets (rooted p t) (turned (arc_of p bound))

-- each bound of the problem is met
abbrev pub MeetsAll : Problem → (ℕ → ℕ) → Type 0
MeetsAll p t = (bound : Bound) → IsBoundOf p bound → MeetsBound p t bound

-- what the members of a list that belong to an operation amount to
abbrev pub amount_at : {X : Type 0} → (X → ℕ) → (X → ℕ) → List X → ℕ → ℕ
amount_at place amount xs k = sum_by (λ x. if place x == k then amount x else 0) xs

-- bounds with amounts
abbrev pub Flow : Type 0
Flow = List (Bound × ℕ)

abbrev pub inflow : Problem → Flow → ℕ → ℕ
inflow p = amount_at (λ c. (arc_of p c.0).to) (λ c. c.1)

abbrev pub outflow : Problem → Flow → ℕ → ℕ
outflow p = amount_at (λ c. (arc_of p c.0).from) (λ c. c.1)

-- the weights of the edges that end, or begin, at an operation
abbrev pub weight_in : Problem → ℕ → ℕ
weight_in p = amount_at (λ e. e.1) (λ e. weight_of (node_at p e.0)) p.edges

abbrev pub weight_out : Problem → ℕ → ℕ
weight_out p = amount_at (λ e. e.0) (λ e. weight_of (node_at p e.0)) p.edges

-- at each operation the inflow less the outflow is 1, plus the weights of the edges in, less those of the edges out
abbrev pub IsBalanced : Problem → Flow → Type 0
IsBalanced p flow = (k : ℕ) → k < length p.ops → inflow p flow k + weight_out p k ≡ outflow p flow k + (1 + weight_in p k)

pub record IsDualFlow (p : Problem) (flow : Flow) : Type 0 where
  pub bounds : All (λ c. IsBoundOf p c.0) flow
  pub positive : All (λ c. 0 < c.1) flow
  pub balanced : IsBalanced p flow

-- the sum of amount times number of the bounds, less the weighted latencies of the edges, is the value
abbrev pub HasValue : Problem → Flow → ℕ → Type 0
HasValue p flow value =
    sum_by (λ c. c.1 * (arc_of p c.0).up) flow
    ≡ value + sum_by (λ c. c.1 * (arc_of p c.0).down) flow + sum_by (λ e. weight_of (node_at p e.0) * (node_at p e.0).latency) p.edges

-- a list of bounds, each of which starts where the one before ends
abbrev pub Leads : Problem → ℕ → List Bound → ℕ → Type 0
Leads p a [] b = a ≡ b
Leads p a (x ∷ xs) b = ((arc_of p x).from ≡ a) × Leads p (arc_of p x).to xs b

-- closed, and the numbers sum to more than 0
pub record IsContradiction (p : Problem) (cycle : List Bound) : Type 0 where
  pub bounds : All (IsBoundOf p) cycle
  pub closed : (a : ℕ) × Leads p a cycle a
  pub positive : sum_by (λ x. (arc_of p x).down) cycle < sum_by (λ x. (arc_of p x).up) cycle
