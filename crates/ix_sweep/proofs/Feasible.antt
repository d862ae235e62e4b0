-- Times that meet the inequalities of a problem's constraints are a legal schedule, counted from the root's.
use Rattle.std.proofs.Common.{◌≡◌, ap, ℕ, ◌+◌, ◌-◌, ◌≤◌, ◌<◌, ◌⊎◌, inl, inr, true, false, List, length, map, get_or, arith}
use Rattle.std.specs.Prelude.{All, nat_lt}
use Rattle.std.proofs.lemmas.List.{get_or-map, length-map}
use Rattle.std.proofs.lemmas.Bool.Decides.{nat_tests}
use Rattle.ix_sheet.specs.declared.problem.Arc.{Arc}
use Rattle.ix_sheet.specs.declared.problem.Bound.{Bound}
use Rattle.ix_sheet.specs.declared.problem.Problem.{Problem}
use Rattle.ix_sheet.specs.Schedules.{HasSchedule}
use Rattle.ix_sheet.specs.Bounds.{arc_of, rooted, Meets, MeetsBound}
use Rattle.ix_problem.specs.Constraints.{MeetWhereLegal}
use Rattle.ix_solve.specs.Search.{no_arc, arc_at, IsFramed, IsInside, IsFeasible}

-- the times of the operations, counted from that of the root
abbrev from_root : Problem → (ℕ → ℕ) → ℕ → ℕ
from_root p times k = times k - times (length p.ops)

below_or_not : (v n : ℕ) → ((nat_lt v n ≡ true) × (v < n)) ⊎ ((nat_lt v n ≡ false) × (n ≤ v))
below_or_not v n = grind (arith, nat_tests)

-- no operation comes before the root
after_root : (n : ℕ) (arcs : List Arc) (times : ℕ → ℕ) → IsFramed n arcs → All (Meets times) arcs → (v : ℕ) → v < n → times n ≤ times v
after_root n arcs times framed met v b =
    let many = framed.enough in
    let here : Meets times (arc_at arcs v) = met v no_arc (omega arith) in
    let early = framed.early v b in
    let from = ap times early.0 in
    let to = ap times early.1 in
    omega (arith, early.3)

shifted : (p : Problem) (times : ℕ → ℕ) (v : ℕ) → ((k : ℕ) → k < length p.ops → times (length p.ops) ≤ times k) → v ≤ length p.ops →
    rooted p (from_root p times) v + times (length p.ops) ≡ times v
shifted p times v after inside =
    elim (below_or_not v (length p.ops)) [
      | inl below ↦ rw below.0 (let le = after v below.1 in omega arith)
      | inr past ↦ rw past.0 (let same : v ≡ length p.ops = omega (arith, past.1) in let at_root = ap times same in omega arith)
    ]

meets_shifted : (p : Problem) (times : ℕ → ℕ) (a : Arc) → ((k : ℕ) → k < length p.ops → times (length p.ops) ≤ times k) → IsInside (length p.ops) a →
    Meets times a → Meets (rooted p (from_root p times)) a
meets_shifted p times a after inside met =
    let from = shifted p times a.from after inside.0 in
    let to = shifted p times a.to after inside.1 in
    omega arith

pub schedule_from : (p : Problem) (bounds : List Bound) (arcs : List Arc) → MeetWhereLegal p bounds → arcs ≡ map (arc_of p) bounds → IsFramed (length p.ops) arcs →
    IsFeasible (length p.ops) arcs → HasSchedule p
schedule_from p bounds arcs are same framed feasible =
    let times = feasible.times in
    let after = after_root (length p.ops) arcs times framed feasible.met in
    let met : All (Meets times) (map (arc_of p) bounds) = rw same at feasible.met in
    let inside : All (IsInside (length p.ops)) (map (arc_of p) bounds) = rw same at framed.inside in
    let long = length-map bounds (arc_of p) in
    let all : All (MeetsBound p (from_root p times)) bounds
    = λ k d b.
    (let there = get_or-map (arc_of p) bounds k d (arc_of p d) b in
    let here : Meets times (arc_of p (get_or bounds k d)) = rw there at (met k (arc_of p d) (omega arith)) in
    let ends : IsInside (length p.ops) (arc_of p (get_or bounds k d)) = rw there at (inside k (arc_of p d) (omega arith)) in
    meets_shifted p times (arc_of p (get_or bounds k d)) after ends here) in
    (from_root p times, are.legal (from_root p times) all)
