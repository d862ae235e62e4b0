-- The constraints of a problem (Longnail, the scheduling problem with chained operators; one chain for a pair of ends is this project's choice).
use Rattle.std.specs.Prelude.{◌≡◌, ℕ, ◌≤◌, List, ◌++◌, length, map, All, AllPairs}
use Rattle.std.specs.List.{range_with_len}
use Rattle.ix_sheet.specs.declared.problem.Bound.{Bound}
use Rattle.ix_sheet.specs.declared.problem.Bound.TheVariants.{Early, Late, Dep, Chain}
use Rattle.ix_sheet.specs.declared.problem.Problem.{Problem}
use Rattle.ix_sheet.specs.Schedules.{IsFreePath, IsLegal, first_of, last_of, delay_along}
use Rattle.ix_sheet.specs.Bounds.{IsBoundOf, MeetsBound, MeetsAll}

abbrev pub HaveSameEnds : List ℕ → List ℕ → Type 0
HaveSameEnds x y = (first_of x ≡ first_of y) × (last_of x ≡ last_of y)

-- no path with these ends has a greater delay
abbrev pub IsGreatest : Problem → List ℕ → Type 0
IsGreatest p path = (other : List ℕ) → IsFreePath p other → HaveSameEnds other path → delay_along p other ≤ delay_along p path

-- the bounds are the windows, the edges, and chains along these paths
abbrev pub bounds_with : Problem → List (List ℕ) → List Bound
bounds_with p paths =
    map Early (range_with_len 0 (length p.ops)) ++ (map Late (range_with_len 0 (length p.ops)) ++ (map (λ e. Dep e.0 e.1) p.edges ++ map Chain paths))

-- Each is a bound of the problem, and times that meet them meet all that there are; there is one chain at most
-- for each pair of ends, along a path of the greatest delay.
pub record AreConstraints (p : Problem) (bounds : List Bound) : Type 0 where
  pub paths : List (List ℕ)
  pub are : bounds ≡ bounds_with p paths
  pub of : All (IsBoundOf p) bounds
  pub greatest : All (IsGreatest p) paths
  pub once : AllPairs (λ x y. HaveSameEnds x y → ⊥) paths
  pub enough : (t : ℕ → ℕ) → All (MeetsBound p t) bounds → MeetsAll p t

-- times meet the constraints exactly where they are legal
pub record MeetWhereLegal (p : Problem) (bounds : List Bound) : Type 0 where
  pub legal : (t : ℕ → ℕ) → All (MeetsBound p t) bounds → IsLegal p t
  pub met : (t : ℕ → ℕ) → IsLegal p t → All (MeetsBound p t) bounds
