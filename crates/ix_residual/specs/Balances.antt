-- The balances of a problem (duality of difference constraints), and longest residual paths.
use Rattle.std.specs.Prelude.{ℕ, ℤ, pos, neg_ℤ, ◌≡◌, ◌+◌, ◌-◌, ◌≤◌, ◌-ℤ◌, if◌then◌else◌, List, [], ◌∷◌, ◌++◌, length, map, replicate, sum_by}
use Rattle.std.specs.List.{range_with_len}
use Rattle.ix_sheet.specs.declared.problem.Bound.{Bound}
use Rattle.ix_sheet.specs.declared.problem.Problem.{Problem}
use Rattle.ix_sheet.specs.Schedules.{sum_below}
use Rattle.ix_sheet.specs.Bounds.{arc_of, weight_in, weight_out}
use Rattle.ix_residual.specs.declared.residual.Path.{Path}
use Rattle.ix_residual.specs.declared.residual.Residual.{Residual}
use Rattle.ix_residual.specs.Residuals.{Step, bound_at, IsResidualPath, source_of, target_of, augmented}

-- what the inflow of an operation, less its outflow, has to be: 1 for its time, and the weights of its edges in less those of its edges out
abbrev pub balance : Problem → ℕ → ℤ
balance p k = pos (1 + weight_in p k) -ℤ pos (weight_out p k)

-- .. for each operation and last for the root, whose balance is the count of operations, taken negative
abbrev pub balances : Problem → List ℤ
balances p = map (balance p) (range_with_len 0 (length p.ops)) ++ neg_ℤ (pos (length p.ops)) ∷ []

-- the sum of the positive balances of operations
abbrev pub sum_of_needs : Problem → ℕ
sum_of_needs p = sum_below (λ k. 1 + weight_in p k - weight_out p k) (length p.ops)

-- no amount has moved yet
abbrev pub fresh : Problem → List Bound → Residual
fresh p bounds = record { bounds = bounds; amounts = replicate (length bounds) 0; left = balances p }

-- what the number of a step's bound adds to the length of a path, and what it takes off
abbrev pub step_up : Problem → List Bound → Step → ℕ
step_up p bounds s = if s.1 then (arc_of p (bound_at bounds s.0)).up else (arc_of p (bound_at bounds s.0)).down

abbrev pub step_down : Problem → List Bound → Step → ℕ
step_down p bounds s = if s.1 then (arc_of p (bound_at bounds s.0)).down else (arc_of p (bound_at bounds s.0)).up

-- the length of x is at most that of y
abbrev pub IsNoLonger : Problem → List Bound → List Step → List Step → Type 0
IsNoLonger p bounds x y = sum_by (step_up p bounds) x + sum_by (step_down p bounds) y ≤ sum_by (step_up p bounds) y + sum_by (step_down p bounds) x

-- no residual path between the same two ends is longer
abbrev pub IsLongest : Problem → Residual → Path → Type 0
IsLongest p r path = (other : Path) → IsResidualPath r other → source_of r other ≡ source_of r path → target_of r other ≡ target_of r path →
    IsNoLonger p r.bounds other.steps path.steps

-- each path is a longest one at its turn
abbrev pub AreLongest : Problem → Residual → List Path → Type 0
AreLongest p r [] = Unit {0}
AreLongest p r (x ∷ xs) = IsLongest p r x × AreLongest p (augmented r x) xs
