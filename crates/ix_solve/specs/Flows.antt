-- What amounts on inequalities bring to nodes, and what changes where an amount moves along a path (flows on networks).
use Rattle.std.specs.Prelude.{ℕ, Bool, true, ◌≡◌, ◌+◌, ◌≤◌, ◌<◌, ◌==◌, ◌⊎◌, List, [], ◌∷◌, length, slice_index, cond}
use Rattle.ix_sheet.specs.declared.problem.Arc.{Arc}
use Rattle.ix_residual.specs.Residuals.{place_at, IsOnce}
use Rattle.ix_solve.specs.Networks.{step_from, node_after}

-- what the inequalities that belong to node v carry
abbrev pub flow_at : (Arc → ℕ) → List Arc → List ℕ → ℕ → ℕ
flow_at node [] amounts v = 0
flow_at node (b ∷ bs) [] v = 0
flow_at node (b ∷ bs) (x ∷ xs) v = cond (node b == v) x 0 + flow_at node bs xs v

-- what comes to a node, and what leaves it
abbrev pub flow_in : List Arc → List ℕ → ℕ → ℕ
flow_in = flow_at (λ b. b.to)

abbrev pub flow_out : List Arc → List ℕ → ℕ → ℕ
flow_out = flow_at (λ b. b.from)

-- steps from a that join and name no inequality twice
pub record IsWalk (arcs : List Arc) (a : ℕ) (steps : List (ℕ × Bool)) : Type 0 where
  pub within : (k : ℕ) → k < length steps → (place_at steps k).0 < length arcs
  pub joined : (k : ℕ) → k < length steps → step_from arcs (place_at steps k) ≡ node_after arcs a steps k
  pub once : IsOnce steps

-- d more has come to b, and d more has left a
abbrev pub HasMoved : List Arc → List ℕ → List ℕ → ℕ → ℕ → ℕ → Type 0
HasMoved arcs old new a b d = (v : ℕ) →
    flow_in arcs new v + flow_out arcs old v + cond (a == v) d 0 ≡ flow_out arcs new v + flow_in arcs old v + cond (b == v) d 0

-- after i steps only inequalities that were gone along have gained, and they gained d
abbrev pub GainsAlong : List ℕ → List ℕ → ℕ → List (ℕ × Bool) → ℕ → Type 0
GainsAlong old new d steps i = (k : ℕ) →
    (slice_index new k ≤ slice_index old k) ⊎ ((slice_index new k ≡ slice_index old k + d) × ((j : ℕ) × (j < i) × ((place_at steps j).0 ≡ k) × ((place_at steps j).1 ≡ true)))
