-- Legal times meet each bound, and times that meet each bound are legal.
use Rattle.std.proofs.Common.{ℕ, ◌+◌, ◌≤◌, ◌<◌, List, length, get_or, arith, ◌⊎◌, inl, inr}
use Rattle.std.specs.Prelude.{All}
use Rattle.std.proofs.lemmas.List.Elements.{All-contains, Contains-get_or}
use Rattle.ix_sheet.specs.declared.problem.Bound.{Bound}
use Rattle.ix_sheet.specs.declared.problem.Bound.TheVariants.{Early, Late, Dep, Chain}
use Rattle.ix_sheet.specs.declared.problem.Problem.{Problem}
use Rattle.ix_sheet.specs.Schedules.{node_at, IsValidProblem, IsForward, IsLegal, IsAfter, IsInWindow, IsFreePath, KeepsPeriod, first_of, last_of, delay_along}
use Rattle.ix_sheet.specs.Bounds.{IsBoundOf, arc_of, MeetsAll}
use Rattle.ix_sheet.specs.Laws.{LegalIsBounds}
use Rattle.ix_sheet.proofs.Rooted.{rooted_below, rooted_root}
use Rattle.ix_sheet.proofs.Paths.{path_same, path_ends, first_inside, last_inside}

le_or_lt : (a b : ℕ) → (a ≤ b) ⊎ (b < a)
le_or_lt a b = grind arith

-- both ends of a bound are operations or the root
pub ends_inside : (p : Problem) → IsValidProblem p → (bound : Bound) → IsBoundOf p bound →
    ((arc_of p bound).from ≤ length p.ops) × ((arc_of p bound).to ≤ length p.ops)
ends_inside p valid (Early k) h = (omega arith, omega arith)
ends_inside p valid (Late k) h = (omega arith, omega arith)
ends_inside p valid (Dep i j) h =
    let forward : IsForward p (i, j) = All-contains (IsForward p) p.edges (i, j) valid.forward h in
    (omega arith, omega arith)
ends_inside p valid (Chain path) h =
    let first = first_inside p path h.0 in
    let last = last_inside p path valid h.0 in
    (omega arith, omega arith)

-- the delays of a path pass the period, so its last time is above its first
chain_rises : (p : Problem) (t : ℕ → ℕ) (path : List ℕ) → IsLegal p t → IsFreePath p path → p.period < delay_along p path →
    t (first_of path) + 1 ≤ t (last_of path)
chain_rises p t path legal free long =
    elim (le_or_lt (t (last_of path)) (t (first_of path))) [
      | inl same ↦ absurd (let fits = legal.period path free (path_same p t path legal.edges free same) in omega arith)
      | inr up ↦ omega arith
    ]

pub met_from_legal : (p : Problem) (t : ℕ → ℕ) → IsValidProblem p → IsLegal p t → MeetsAll p t
met_from_legal p t valid legal (Early k) h =
    let here = rooted_below p t k h in
    let root = rooted_root p t in
    let window = legal.windows k h in
    omega arith
met_from_legal p t valid legal (Late k) h =
    let here = rooted_below p t k h in
    let root = rooted_root p t in
    let window = legal.windows k h in
    omega arith
met_from_legal p t valid legal (Dep i j) h =
    let forward : IsForward p (i, j) = All-contains (IsForward p) p.edges (i, j) valid.forward h in
    let after : IsAfter p t (i, j) = All-contains (IsAfter p t) p.edges (i, j) legal.edges h in
    let from = rooted_below p t i (omega arith) in
    let to = rooted_below p t j (omega arith) in
    omega arith
met_from_legal p t valid legal (Chain path) h =
    let rises = chain_rises p t path legal h.0 h.1 in
    let from = rooted_below p t (first_of path) (first_inside p path h.0) in
    let to = rooted_below p t (last_of path) (last_inside p path valid h.0) in
    omega arith

window_from_met : (p : Problem) (t : ℕ → ℕ) → MeetsAll p t → (k : ℕ) → k < length p.ops → IsInWindow (node_at p k) (t k)
window_from_met p t met k h =
    let here = rooted_below p t k h in
    let root = rooted_root p t in
    let early = met (Early k) h in
    let late = met (Late k) h in
    (omega arith, omega arith)

edges_from_met : (p : Problem) (t : ℕ → ℕ) → IsValidProblem p → MeetsAll p t → All (IsAfter p t) p.edges
edges_from_met p t valid met k d h =
    let e = get_or p.edges k d in
    let forward = valid.forward k d h in
    let dep = met (Dep e.0 e.1) (Contains-get_or p.edges k d h) in
    let from = rooted_below p t e.0 (omega arith) in
    let to = rooted_below p t e.1 (omega arith) in
    omega arith

period_from_met : (p : Problem) (t : ℕ → ℕ) → IsValidProblem p → MeetsAll p t → KeepsPeriod p t
period_from_met p t valid met path free one_time =
    elim (le_or_lt (delay_along p path) p.period) [
      | inl fits ↦ fits
      | inr long ↦ absurd (
          let chain = met (Chain path) (free, long) in
          let ends = path_ends t path one_time in
          let from = rooted_below p t (first_of path) (first_inside p path free) in
          let to = rooted_below p t (last_of path) (last_inside p path valid free) in
          omega arith)
    ]

pub legal_from_met : (p : Problem) (t : ℕ → ℕ) → IsValidProblem p → MeetsAll p t → IsLegal p t
legal_from_met p t valid met = record {
  windows = window_from_met p t met;
  edges = edges_from_met p t valid met;
  period = period_from_met p t valid met;
}

pub legal_is_bounds : (p : Problem) → IsValidProblem p → (t : ℕ → ℕ) → LegalIsBounds p t
legal_is_bounds p valid t = record { met = met_from_legal p t valid; legal = legal_from_met p t valid }
