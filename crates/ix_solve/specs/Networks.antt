-- Networks of inequalities, some of which are turned round too, and longest paths over them (residual networks).
use Rattle.std.specs.Prelude.{ℕ, Bool, true, false, zero, suc, ◌≡◌, ◌+◌, ◌-◌, ◌≤◌, ◌<◌, ◌^◌, nat_lt, if◌then◌else◌, List, length, slice_index, All, Contains}
use Rattle.ix_sheet.specs.declared.problem.Arc.{Arc}
use Rattle.ix_sheet.specs.Bounds.{Meets, IsTight, turned}
use Rattle.ix_residual.specs.Residuals.{place_at, IsOnce}
use Rattle.ix_solve.specs.declared.network.Network.{Network}
use Rattle.ix_solve.specs.declared.search.TheConstants.{LIMIT}
use Rattle.ix_solve.specs.Search.{arc_at, IsFramed}

-- the inequalities, which give each operation a first and a last time, and behind them some of them turned round
pub record IsNetwork (net : Network) : Type 0 where
  pub few : net.bounds < 2 ^ 32
  pub len : length net.arcs.items ≡ net.bounds + length net.back.items
  pub enough : net.root + net.root ≤ net.bounds
  pub framed : IsFramed net.root net.arcs.items
  pub against : (i : ℕ) → i < length net.back.items →
      (slice_index net.back.items i < net.bounds) × (arc_at net.arcs.items (net.bounds + i) ≡ turned (arc_at net.arcs.items (slice_index net.back.items i)))

-- those that carry an amount are turned round
pub record IsResidual (amounts : List ℕ) (net : Network) : Type 0 where
  pub each : (k : ℕ) → k < net.bounds → 0 < slice_index amounts k → Contains net.back.items k
  pub only : All (λ k. 0 < slice_index amounts k) net.back.items

-- the inequality that stands at a place, along or turned round
abbrev pub step_of : Network → ℕ → ℕ × Bool
step_of net place = if nat_lt place net.bounds then (place, true) else (slice_index net.back.items (place - net.bounds), false)

-- the node before and after a step
abbrev pub step_from : List Arc → ℕ × Bool → ℕ
step_from arcs s = if s.1 then (arc_at arcs s.0).from else (arc_at arcs s.0).to

abbrev pub step_to : List Arc → ℕ × Bool → ℕ
step_to arcs s = if s.1 then (arc_at arcs s.0).to else (arc_at arcs s.0).from

-- the node after k steps from a
abbrev pub node_after : List Arc → ℕ → List (ℕ × Bool) → ℕ → ℕ
node_after arcs a steps zero = a
node_after arcs a steps (suc k) = step_to arcs (place_at steps k)

-- a path from a to b over the first m inequalities, whose steps join and name none twice, and which the times meet with equality
pub record IsTightPath (arcs : List Arc) (m : ℕ) (t : ℕ → ℕ) (a b : ℕ) (steps : List (ℕ × Bool)) : Type 0 where
  pub within : (k : ℕ) → k < length steps → (place_at steps k).0 < m
  pub joined : (k : ℕ) → k < length steps → step_from arcs (place_at steps k) ≡ node_after arcs a steps k
  pub ends : node_after arcs a steps (length steps) ≡ b
  pub once : IsOnce steps
  pub tight : (k : ℕ) → k < length steps → IsTight t (arc_at arcs (place_at steps k).0)

-- such a path that goes against none but those that are turned round; and the times meet the network
pub record IsLongestPath (net : Network) (t : ℕ → ℕ) (a b : ℕ) (steps : List (ℕ × Bool)) : Type 0 where
  pub path : IsTightPath net.arcs.items net.bounds t a b steps
  pub carried : (k : ℕ) → k < length steps → (place_at steps k).1 ≡ false → Contains net.back.items (place_at steps k).0
  pub low : (v : ℕ) → v ≤ net.root → t v ≤ LIMIT
  pub met : All (Meets t) net.arcs.items
