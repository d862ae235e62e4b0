-- Arcs that are followed where some times meet all.
use Rattle.std.proofs.Common.{◌≡◌, ℕ, ◌+◌, ◌-◌, ◌*◌, ◌≤◌, List, Option, None, Some, get_or, refl, ◌∙◌, ap, arith, inl, inr}
use Rattle.std.specs.Prelude.{All, sum, IsNone, IfSome}
use Rattle.std.proofs.lemmas.List.Elements.{All-weaker, All-from_get_or}
use Rattle.std.proofs.lemmas.List.Sums.{sum_by-le}
use Rattle.ix_sheet.specs.declared.problem.Arc.{Arc}
use Rattle.ix_sheet.specs.Bounds.{Meets}
use Rattle.ix_solve.specs.declared.network.Network.{Network}
use Rattle.ix_solve.specs.declared.search.Step.{Step}
use Rattle.ix_solve.specs.declared.search.Search.{Search}
use Rattle.ix_solve.specs.declared.search.TheConstants.{LIMIT}
use Rattle.ix_solve.specs.Search.{no_arc, arc_at, IsInside, HasReached, IsSearch, IsFeasible, IsOverdue}
use Rattle.ix_solve.proofs.Steps.{least}

-- no arc is late
pub none_late : (net : Network) (s : Search) (place : ℕ) → IsSearch net s → IsFeasible net.root net.arcs.items → All (IsInside net.root) net.arcs.items → s.source ≤ net.root →
    IsOverdue net s place → ⊥
none_late net s place h feasible inside source_in over =
    let x = feasible.times in
    let a = arc_at net.arcs.items place in
    let t : ℕ → ℕ = λ v. x v + (LIMIT - x s.source) in
    let met : All (Meets t) net.arcs.items = All-weaker (Meets x) (Meets t) (λ b m. omega arith) net.arcs.items feasible.met in
    let low = feasible.low s.source source_in in
    let origin : LIMIT ≤ t s.source = omega arith in
    let ends : IsInside net.root a = inside place no_arc over.within in
    let r = least net.root s.source LIMIT (LIMIT + LIMIT) net.arcs.items s.reach.items s.last.items s.log.items h t met origin a.from ends.0 in
    let m : Meets t a = met place no_arc over.within in
    let top = feasible.low a.to ends.1 in
    let unmet = over.unmet in
    elim over.late [
      | inl back ↦
          (let at : x a.to ≡ x s.source = ap x back in
          let at2 : get_or s.reach.items a.to 0 ≡ LIMIT = ap (λ v. get_or s.reach.items v 0) back ∙ h.root in
          omega arith)
      | inr far ↦ omega arith
    ]

-- what is told of None, where there can be no Some
pub settled_all : {P : Type 0} (Q : ℕ → Type 0) (late : Option ℕ) → (IsNone late → P) → IfSome late Q → ((k : ℕ) → Q k → ⊥) → P
settled_all Q None none some never = none refl
settled_all Q (Some k) none some never = absurd (never k some)

pub reach_cap : (n source base cap : ℕ) (arcs : List Arc) (reach last : List ℕ) (log : List Step) → HasReached n source base cap arcs reach last log → sum reach ≤ (n + 1) * cap
reach_cap n source base cap arcs reach last log h =
    let m = sum_by-le (λ x. x) cap reach (All-from_get_or (λ x. x ≤ cap) reach 0 (λ v b. h.low v (omega (arith, h.reach_len)))) in
    rw (← h.reach_len) m
