-- Closed lists of bounds.
use Rattle.std.proofs.Common.{ℕ, ◌+◌, ◌≤◌, List, [], ◌∷◌, get_or, arith}
use Rattle.std.specs.Prelude.{All, sum_by}
use Rattle.std.proofs.lemmas.List.Sums.{sum_by-cons}
use Rattle.std.proofs.lemmas.List.Elements.{All-head, All-tail}
use Rattle.ix_sheet.specs.declared.problem.Bound.{Bound}
use Rattle.ix_sheet.specs.declared.problem.Problem.{Problem}
use Rattle.ix_sheet.specs.Schedules.{IsValidProblem, IsLegal}
use Rattle.ix_sheet.specs.Bounds.{arc_of, rooted, Leads, MeetsBound, IsContradiction}
use Rattle.ix_sheet.proofs.BoundLemmas.{met_from_legal}

-- along a list of bounds that are met
along : (p : Problem) (t : ℕ → ℕ) (a b : ℕ) (xs : List Bound) → All (MeetsBound p t) xs → Leads p a xs b →
    rooted p t a + sum_by (λ x. (arc_of p x).up) xs ≤ rooted p t b + sum_by (λ x. (arc_of p x).down) xs
along p t a b [] met leads = rw leads (omega arith)
along p t a b (x ∷ xs) met leads =
    rw (sum_by-cons (λ y. (arc_of p y).up) x xs, sum_by-cons (λ y. (arc_of p y).down) x xs, ← leads.0)
    (let first : MeetsBound p t x = All-head (MeetsBound p t) x xs met in
    let later = along p t (arc_of p x).to b xs (All-tail (MeetsBound p t) x xs met) leads.1 in
    omega arith)

pub no_schedule : (p : Problem) → IsValidProblem p → (cycle : List Bound) → IsContradiction p cycle → (t : ℕ → ℕ) → IsLegal p t → ⊥
no_schedule p valid cycle bad t legal =
    let met : All (MeetsBound p t) cycle = λ k d h. met_from_legal p t valid legal (get_or cycle k d) (bad.bounds k d h) in
    let sums = along p t bad.closed.0 bad.closed.0 cycle met bad.closed.1 in
    omega (arith, bad.positive)
