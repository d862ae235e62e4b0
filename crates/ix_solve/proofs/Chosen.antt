-- The least times over the residual arcs of a flow are the chosen schedule.
use Rattle.std.proofs.Common.{◌≡◌, ℕ, ◌≤◌, ◌<◌, List, length, get_or, take, sym, ◌∙◌, arith, ◌⊎◌, inl, inr}
use Rattle.std.specs.Prelude.{All, slice_index}
use Rattle.std.proofs.lemmas.List.{get_or-take, length-take-le}
use Rattle.std.proofs.lemmas.List.Elements.{All-weaker, All-from_get_or}
use Rattle.ix_sheet.specs.declared.problem.Bound.{Bound}
use Rattle.ix_sheet.specs.declared.problem.Bound.TheVariants.{Early}
use Rattle.ix_sheet.specs.declared.problem.Problem.{Problem}
use Rattle.ix_sheet.specs.Schedules.{IsValidProblem, IsSchedule}
use Rattle.ix_sheet.specs.Bounds.{arc_of, rooted, Meets, MeetsBound, MeetsTurned, turned, IsBoundOf}
use Rattle.ix_sheet.specs.Laws.{AreLeastTimes, IsChosenAtValue}
use Rattle.ix_sheet.proofs.BoundLemmas.{ends_inside}
use Rattle.ix_sheet.proofs.Duality.{chosen_by_flow}
use Rattle.ix_sheet.proofs.Rooted.{rooted_below, rooted_root}
use Rattle.ix_problem.specs.Constraints.{AreConstraints}
use Rattle.ix_residual.specs.Residuals.{bound_at}
use Rattle.ix_solve.specs.Search.{no_arc, arc_at}
use Rattle.ix_solve.specs.Answers.{used, AreOptimal}
use Rattle.ix_solve.proofs.Links.{arcs_for, arc_there, arcs_long, each_used, of_used, dual_flow}

below_or_not : (a b : ℕ) → (a < b) ⊎ (b ≤ a)
below_or_not a b = grind arith

-- the times of the operations, with 0 for the root, are the times of the nodes
rooted_times : (p : Problem) (times : List ℕ) → get_or times (length p.ops) 0 ≡ 0 → (v : ℕ) → v ≤ length p.ops →
    rooted p (slice_index (take (length p.ops) times)) v ≡ get_or times v 0
rooted_times p times zero_root v b =
    let t = slice_index (take (length p.ops) times) in
    elim (below_or_not v (length p.ops)) [
      | inl low ↦ rooted_below p t v low ∙ get_or-take (length p.ops) times v 0 low
      | inr high ↦
          (let e : v ≡ length p.ops = omega arith in
          rw (e, rooted_root p t) (sym zero_root))
    ]

-- what is met at the nodes' times is met at the operations' times
bound_met : (p : Problem) (times : List ℕ) (bound : Bound) → IsValidProblem p → IsBoundOf p bound → get_or times (length p.ops) 0 ≡ 0 →
    Meets (λ v. get_or times v 0) (arc_of p bound) → MeetsBound p (slice_index (take (length p.ops) times)) bound
bound_met p times bound valid of zero_root met =
    let ends = ends_inside p valid bound of in
    rw (rooted_times p times zero_root (arc_of p bound).from ends.0, rooted_times p times zero_root (arc_of p bound).to ends.1) met

turned_met : (p : Problem) (times : List ℕ) (bound : Bound) → IsValidProblem p → IsBoundOf p bound → get_or times (length p.ops) 0 ≡ 0 →
    Meets (λ v. get_or times v 0) (turned (arc_of p bound)) → MeetsTurned p (slice_index (take (length p.ops) times)) bound
turned_met p times bound valid of zero_root met =
    let ends = ends_inside p valid bound of in
    rw (rooted_times p times zero_root (arc_of p bound).from ends.0, rooted_times p times zero_root (arc_of p bound).to ends.1) met

all_met : (p : Problem) (bounds : List Bound) (times : List ℕ) → IsValidProblem p → All (IsBoundOf p) bounds → get_or times (length p.ops) 0 ≡ 0 →
    All (Meets (λ v. get_or times v 0)) (arcs_for p bounds) → All (MeetsBound p (slice_index (take (length p.ops) times))) bounds
all_met p bounds times valid of zero_root met = All-from_get_or (MeetsBound p (slice_index (take (length p.ops) times))) bounds (Early 0)
    (λ k b.
    let here : Meets (λ v. get_or times v 0) (arc_at (arcs_for p bounds) k) = met k no_arc (omega (arith, arcs_long p bounds)) in
    bound_met p times (bound_at bounds k) valid (of k (Early 0) b) zero_root (rw (arc_there p bounds k b) at here))

least_times : (p : Problem) (bounds : List Bound) (times amounts : List ℕ) → IsValidProblem p → AreConstraints p bounds → AreOptimal p bounds times amounts →
    AreLeastTimes p (used bounds amounts) (slice_index (take (length p.ops) times))
least_times p bounds times amounts valid are h =
    let n = length p.ops in
    let l = h.least in
    let long = arcs_long p bounds in
    record {
      met = are.enough (slice_index (take n times)) (all_met p bounds times valid are.of l.root l.met);
      back = All-weaker (λ (c : Bound × ℕ). MeetsTurned p (slice_index (take n times)) c.0 × (0 < c.1)) (λ c. MeetsTurned p (slice_index (take n times)) c.0) (λ c q. q.0) (used bounds amounts)
          (each_used (MeetsTurned p (slice_index (take n times))) bounds amounts h.amounts_len
          (λ k b pos.
          let here : Meets (λ v. get_or times v 0) (turned (arc_at (arcs_for p bounds) k)) = l.back k (omega arith) pos in
          turned_met p times (bound_at bounds k) valid (are.of k (Early 0) b) l.root (rw (arc_there p bounds k b) at here)));
      least = λ u met back k b.
          (let first : All (Meets (rooted p u)) (arcs_for p bounds) = All-from_get_or (Meets (rooted p u)) (arcs_for p bounds) no_arc
          (λ i i_in.
          let in_bounds : i < length bounds = omega arith in
          let here : MeetsBound p u (bound_at bounds i) = met (bound_at bounds i) (are.of i (Early 0) in_bounds) in
          rw (arc_there p bounds i in_bounds) here) in
          let second : (i : ℕ) → i < length (arcs_for p bounds) → 0 < get_or amounts i 0 → Meets (rooted p u) (turned (arc_at (arcs_for p bounds) i))
          = λ i i_in pos.
          (let in_bounds : i < length bounds = omega arith in
          let here : MeetsTurned p u (bound_at bounds i) = of_used (MeetsTurned p u) bounds amounts h.amounts_len back i in_bounds pos in
          rw (arc_there p bounds i in_bounds) here) in
          let le = l.least (rooted p u) (rooted_root p u) first second k (omega arith) in
          let there : get_or (take n times) k 0 ≡ get_or times k 0 = get_or-take n times k 0 b in
          let same = rooted_below p u k b in
          omega arith);
    }

-- the times are the chosen schedule, and the flow has their cost as value
pub settled : (p : Problem) (bounds : List Bound) (times amounts : List ℕ) → IsValidProblem p → AreConstraints p bounds → AreOptimal p bounds times amounts →
    IsSchedule p (take (length p.ops) times) × IsChosenAtValue p (used bounds amounts) (slice_index (take (length p.ops) times))
settled p bounds times amounts valid are h =
    let at = chosen_by_flow p valid (used bounds amounts) (dual_flow p bounds times amounts are.of h) (slice_index (take (length p.ops) times)) (least_times p bounds times amounts valid are h) in (
      record {
        count = length-take-le (length p.ops) times (omega (arith, h.least.len));
        legal = at.chosen.cheapest.legal;
      },
      at,
    )
