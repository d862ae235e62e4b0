-- Laws on schedules (linear programming, duality of difference constraints).
use Rattle.std.specs.Prelude.{◌≡◌, ℕ, ◌<◌, ◌≤◌, min, List, length, All}
use Rattle.ix_sheet.specs.declared.problem.Bound.{Bound}
use Rattle.ix_sheet.specs.declared.problem.Problem.{Problem}
use Rattle.ix_sheet.specs.Schedules.{IsValidProblem, IsLegal, cost, IsCheapest, IsChosen}
use Rattle.ix_sheet.specs.Bounds.{MeetsAll, MeetsTurned, IsTightBound, Flow, IsDualFlow, HasValue, IsContradiction}

-- times are legal exactly where they meet each bound
pub record LegalIsBounds (p : Problem) (t : ℕ → ℕ) : Type 0 where
  pub met : IsLegal p t → MeetsAll p t
  pub legal : MeetsAll p t → IsLegal p t

abbrev pub BoundsLaw : Type 0
BoundsLaw = (p : Problem) → IsValidProblem p → (t : ℕ → ℕ) → LegalIsBounds p t

-- a dual flow whose value is the cost of a legal schedule shows that none costs less
abbrev pub FlowLaw : Type 0
FlowLaw = (p : Problem) → IsValidProblem p → (flow : Flow) → IsDualFlow p flow → (t : ℕ → ℕ) → IsLegal p t →
    HasValue p flow (cost p t) → IsCheapest p t

-- a contradictory cycle shows that no schedule is legal
abbrev pub CycleLaw : Type 0
CycleLaw = (p : Problem) → IsValidProblem p → (cycle : List Bound) → IsContradiction p cycle → (t : ℕ → ℕ) → IsLegal p t → ⊥

-- the pointwise minimum of two legal schedules of least cost is one too
abbrev pub MinimumLaw : Type 0
MinimumLaw = (p : Problem) → IsValidProblem p → (t u : ℕ → ℕ) → IsCheapest p t → IsCheapest p u → IsCheapest p (λ k. min (t k) (u k))

-- each legal schedule of least cost meets each bound that has an amount with equality
abbrev pub TightLaw : Type 0
TightLaw = (p : Problem) → IsValidProblem p → (flow : Flow) → IsDualFlow p flow → (t : ℕ → ℕ) → IsCheapest p t →
    HasValue p flow (cost p t) → All (λ c. IsTightBound p t c.0) flow

-- the times meet each bound, and each bound that has an amount turned round; and none that do so are less anywhere
pub record AreLeastTimes (p : Problem) (flow : Flow) (t : ℕ → ℕ) : Type 0 where
  pub met : MeetsAll p t
  pub back : All (λ c. MeetsTurned p t c.0) flow
  pub least : (u : ℕ → ℕ) → MeetsAll p u → All (λ c. MeetsTurned p u c.0) flow → (k : ℕ) → k < length p.ops → t k ≤ u k

-- such times are the chosen schedule, and the flow has their cost as value
pub record IsChosenAtValue (p : Problem) (flow : Flow) (t : ℕ → ℕ) : Type 0 where
  pub chosen : IsChosen p t
  pub value : HasValue p flow (cost p t)

abbrev pub ChosenLaw : Type 0
ChosenLaw = (p : Problem) → IsValidProblem p → (flow : Flow) → IsDualFlow p flow → (t : ℕ → ℕ) → AreLeastTimes p flow t → IsChosenAtValue p flow t

-- no two schedules are chosen
abbrev pub OneLaw : Type 0
OneLaw = (p : Problem) (t u : ℕ → ℕ) → IsChosen p t → IsChosen p u → (k : ℕ) → k < length p.ops → t k ≡ u k
