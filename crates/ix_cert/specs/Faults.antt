-- What the check of a report judges, in order (linear programming, duality of difference constraints; the order and what is told are this project's choice).
use Rattle.std.specs.Prelude.{◌≡◌, ◌≢◌, ℕ, zero, suc, ◌+◌, ◌-◌, ◌<◌, ◌≤◌, ◌⊎◌, List, [], ◌∷◌, ◌++◌, length, slice_index, slice_index_or, sum_by, All, Option, Some, None}
use Rattle.ix_graph.specs.declared.graph.Mode.{Mode}
use Rattle.ix_sheet.specs.declared.problem.Bound.{Bound}
use Rattle.ix_sheet.specs.declared.problem.Bound.TheVariants.{Early, Dep as dep}
use Rattle.ix_sheet.specs.declared.problem.Problem.{Problem}
use Rattle.ix_sheet.specs.Schedules.{node_at, IsFreePath, first_of, last_of, delay_along, IsAfter, IsInWindow, IsSchedule, IsCheapest, HasSchedule, cost}
use Rattle.ix_sheet.specs.Bounds.{IsBoundOf, arc_of, inflow, outflow, weight_in, weight_out, HasValue}
use Rattle.ix_cert.specs.declared.report.CertErr.{CertErr}
use Rattle.ix_cert.specs.declared.report.CertErr.TheVariants.{Dep, Window, Chain, Balance, Value, NotPositive, NotClosed}
use Rattle.ix_cert.specs.declared.report.Report.{Report}
use Rattle.ix_cert.specs.declared.report.ReportBlock.{ReportBlock}

-- ---- steps
-- A step judges items by number, from 0, and tells the first bad one.
pub record Step : Type 1 where
  pub items : ℕ
  pub IsBad : ℕ → Type 0
  pub told : ℕ → CertErr

-- the item is bad, and none before it is
pub record IsFirstBad (step : Step) (k : ℕ) : Type 0 where
  pub inside : k < step.items
  pub bad : step.IsBad k
  pub before : (j : ℕ) → j < k → step.IsBad j → ⊥

abbrev pub HasNoBad : Step → Type 0
HasNoBad step = (k : ℕ) → k < step.items → step.IsBad k → ⊥

-- the first step that has a bad item tells the error
abbrev pub IsFirstFault : List Step → CertErr → Type 0
IsFirstFault [] e = ⊥
IsFirstFault (step ∷ rest) e = ((k : ℕ) × IsFirstBad step k × (step.told k ≡ e)) ⊎ (HasNoBad step × IsFirstFault rest e)

abbrev pub HasNoFault : List Step → Type 0
HasNoFault [] = Unit {0}
HasNoFault (step ∷ rest) = HasNoBad step × HasNoFault rest

-- ---- where the lines of a behaviour stand; `first` is the number of its first line
abbrev pub op_place : ℕ → ReportBlock → ℕ → ℕ
op_place first b k = first + 1 + k

abbrev pub edge_place : ℕ → ReportBlock → ℕ → ℕ
edge_place first b k = first + 1 + length b.problem.ops + k

-- of the cost, or of the cycle's first line
abbrev pub certificate_place : ℕ → ReportBlock → ℕ
certificate_place first b = first + 1 + length b.problem.ops + length b.problem.edges

abbrev pub flow_place : ℕ → ReportBlock → ℕ → ℕ
flow_place first b k = certificate_place first b + 1 + k

abbrev pub cycle_place : ℕ → ReportBlock → ℕ → ℕ
cycle_place first b k = certificate_place first b + k

-- ---- what is judged
abbrev pub times_of : ReportBlock → ℕ → ℕ
times_of b = slice_index b.times

-- the times break the edge
abbrev pub IsBroken : ReportBlock → ℕ → Type 0
IsBroken b k = IsAfter b.problem (times_of b) (slice_index_or b.problem.edges k (0, 0)) → ⊥

abbrev pub IsOutside : ReportBlock → ℕ → Type 0
IsOutside b k = IsInWindow (node_at b.problem k) (times_of b k) → ⊥

-- delays along a path within one time, which ends at the operation, pass the period
pub record IsPassed (p : Problem) (t : ℕ → ℕ) (k : ℕ) : Type 0 where
  pub path : List ℕ
  pub free : IsFreePath p path
  pub one_time : All (λ i. t i ≡ t (first_of path)) path
  pub last : last_of path ≡ k
  pub long : p.period < delay_along p path

-- the printed cost is not that of the times
abbrev pub IsOtherCost : ReportBlock → ℕ → Type 0
IsOtherCost b k = b.cost ≢ cost b.problem (times_of b)

abbrev pub blank_part : Bound × ℕ
blank_part = (Early 0, 0)

-- the bound is no edge, or no path along free edges whose delays pass the period
abbrev pub NamesNone : Problem → Bound → Type 0
NamesNone p bound = IsBoundOf p bound → ⊥

-- what is told of such a bound
abbrev pub unnamed : Bound → ℕ → CertErr
unnamed (dep i j) line = Dep line
unnamed bound line = Chain line

abbrev pub IsUnbalanced : ReportBlock → ℕ → Type 0
IsUnbalanced b k = inflow b.problem b.flow k + weight_out b.problem k ≢ outflow b.problem b.flow k + (1 + weight_in b.problem k)

abbrev pub IsOtherValue : ReportBlock → ℕ → Type 0
IsOtherValue b k = HasValue b.problem b.flow b.cost → ⊥

-- where the bound before ends: of the first one, the last
abbrev pub end_before : Problem → List Bound → ℕ → ℕ
end_before p cycle zero = (arc_of p (slice_index_or cycle (length cycle - 1) (Early 0))).to
end_before p cycle (suc k) = (arc_of p (slice_index_or cycle k (Early 0))).to

abbrev pub IsOpen : ReportBlock → ℕ → Type 0
IsOpen b k = (arc_of b.problem (slice_index_or b.cycle k (Early 0))).from ≢ end_before b.problem b.cycle k

-- the numbers of the cycle do not sum to more than 0
abbrev pub IsNotPositive : ReportBlock → ℕ → Type 0
IsNotPositive b k = sum_by (λ x. (arc_of b.problem x).up) b.cycle ≤ sum_by (λ x. (arc_of b.problem x).down) b.cycle

-- ---- the steps, in order
-- of a behaviour with a schedule: its times
abbrev pub times_steps : ReportBlock → ℕ → List Step
times_steps b first =
    record { items = length b.problem.edges; IsBad = IsBroken b; told = λ k. Dep (edge_place first b k) }
    ∷ record { items = length b.problem.ops; IsBad = IsOutside b; told = λ k. Window (op_place first b k) }
    ∷ record { items = length b.problem.ops; IsBad = IsPassed b.problem (times_of b); told = λ k. Chain (op_place first b k) }
    ∷ record { items = 1; IsBad = IsOtherCost b; told = λ k. Value (certificate_place first b) }
    ∷ []

-- its flow
abbrev pub flow_steps : ReportBlock → ℕ → List Step
flow_steps b first =
    record { items = length b.flow; IsBad = λ k. NamesNone b.problem (slice_index_or b.flow k blank_part).0; told = λ k. unnamed (slice_index_or b.flow k blank_part).0 (flow_place first b k) }
    ∷ record { items = length b.problem.ops; IsBad = IsUnbalanced b; told = λ k. Balance (op_place first b k) }
    ∷ record { items = 1; IsBad = IsOtherValue b; told = λ k. Value (certificate_place first b) }
    ∷ []

-- of a behaviour without one
abbrev pub cycle_steps : ReportBlock → ℕ → List Step
cycle_steps b first =
    record { items = length b.cycle; IsBad = λ k. NamesNone b.problem (slice_index_or b.cycle k (Early 0)); told = λ k. unnamed (slice_index_or b.cycle k (Early 0)) (cycle_place first b k) }
    ∷ record { items = length b.cycle; IsBad = IsOpen b; told = λ k. NotClosed (cycle_place first b k) }
    ∷ record { items = 1; IsBad = IsNotPositive b; told = λ k. NotPositive (certificate_place first b) }
    ∷ []

abbrev pub steps_in : Option Mode → ReportBlock → ℕ → List Step
steps_in None b first = cycle_steps b first
steps_in (Some mode) b first = times_steps b first ++ flow_steps b first

-- how many lines a behaviour has
abbrev pub certificate_count : ReportBlock → Option Mode → ℕ
certificate_count b None = length b.cycle
certificate_count b (Some mode) = 1 + length b.flow

abbrev pub block_count : ReportBlock → ℕ
block_count b = 1 + length b.problem.ops + length b.problem.edges + certificate_count b b.mode + 1

-- the steps of one behaviour after the other, the first of which begins at line `first`
abbrev pub steps_from : List ReportBlock → ℕ → List Step
steps_from [] first = []
steps_from (b ∷ rest) first = steps_in b.mode b first ++ steps_from rest (first + block_count b)

-- the report's first line has the number `first`; the behaviours begin two lines later
abbrev pub steps_of : Report → ℕ → List Step
steps_of r first = steps_from r.blocks (first + 2)

-- ---- what a yes says
-- the times are legal and no legal schedule costs less, or there is no legal schedule
abbrev pub IsCertifiedIn : ReportBlock → Option Mode → Type 0
IsCertifiedIn b None = HasSchedule b.problem → ⊥
IsCertifiedIn b (Some mode) = IsSchedule b.problem b.times × IsCheapest b.problem (times_of b) × (b.cost ≡ cost b.problem (times_of b))

abbrev pub IsCertified : ReportBlock → Type 0
IsCertified b = IsCertifiedIn b b.mode
