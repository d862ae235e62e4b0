-- The answers of the solver (Longnail, the scheduling problem; the certificates are this project's choice).
use Rattle.std.specs.Prelude.{ℕ, ◌≡◌, ◌+◌, ◌^◌, ◌≤◌, ◌<◌, ◌==◌, if◌then◌else◌, List, [], ◌∷◌, length, map, slice_index, All}
use Rattle.ix_sheet.specs.declared.problem.Bound.{Bound}
use Rattle.ix_sheet.specs.declared.problem.Arc.{Arc}
use Rattle.ix_sheet.specs.declared.problem.Bound.TheVariants.{Early, Late, Dep, Chain}
use Rattle.ix_sheet.specs.declared.problem.Problem.{Problem}
use Rattle.ix_sheet.specs.Schedules.{IsSchedule, HasSchedule, IsChosen, cost}
use Rattle.ix_sheet.specs.Bounds.{arc_of, weight_in, weight_out, Flow, IsDualFlow, HasValue, IsContradiction}
use Rattle.ix_solve.specs.declared.schedule.Solved.{Solved}
use Rattle.ix_solve.specs.declared.schedule.SolveErr.{SolveErr}
use Rattle.ix_solve.specs.declared.schedule.SolveErr.TheVariants.{Cycle, Memory}
use Rattle.ix_solve.specs.Flows.{flow_in, flow_out}
use Rattle.ix_solve.specs.State.{AreLeastOver}

-- a cycle is a contradiction, and no schedule is legal; memory has no cause
abbrev pub IsRefusal : Problem → SolveErr → Type 0
IsRefusal p (Cycle cycle) = IsContradiction p cycle × (HasSchedule p → ⊥)
IsRefusal p Memory = Unit {0}

-- the amounts are numbers of 64 bits
abbrev pub AreWords : Flow → Type 0
AreWords flow = All (λ c. c.1 < 2 ^ 64) flow

-- the bounds that carry an amount, with their amounts
abbrev pub used : List Bound → List ℕ → Flow
used [] amounts = []
used (b ∷ bs) [] = []
used (b ∷ bs) (x ∷ xs) = if x == 0 then used bs xs else (b, x) ∷ used bs xs

-- amounts on the bounds that meet the balances of the problem, and the least times that go with them
pub record AreOptimal (p : Problem) (bounds : List Bound) (times amounts : List ℕ) : Type 0 where
  pub amounts_len : length amounts ≡ length bounds
  pub balanced : (v : ℕ) → v < length p.ops →
      flow_in (map (arc_of p) bounds) amounts v + weight_out p v ≡ flow_out (map (arc_of p) bounds) amounts v + (1 + weight_in p v)
  pub least : AreLeastOver (length p.ops) (map (arc_of p) bounds) amounts times

-- the times are the chosen schedule, the cost is theirs, and the flow is dual and has the cost as its value
pub record IsSolved (p : Problem) (solved : Solved) : Type 0 where
  pub schedule : IsSchedule p solved.times
  pub chosen : IsChosen p (slice_index solved.times)
  pub cost : solved.cost ≡ cost p (slice_index solved.times)
  pub flow : IsDualFlow p solved.flow
  pub value : HasValue p solved.flow solved.cost

-- the end of a window is a byte
abbrev pub FitsByte : Bound → Arc → Type 0
FitsByte (Early k) a = a.up ≤ 255
FitsByte (Late k) a = a.down ≤ 255
FitsByte (Dep i j) a = Unit {0}
FitsByte (Chain path) a = Unit {0}
