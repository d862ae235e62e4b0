-- A greater period leaves each legal schedule legal.
use Rattle.std.proofs.Common.{◌≡◌, refl, ℕ, ◌≤◌, List, [], ◌∷◌, map, arith}
use Rattle.std.specs.List.{zip}
use Rattle.ix_graph.specs.declared.graph.Graph.{Graph}
use Rattle.ix_graph.specs.declared.graph.Mode.{Mode}
use Rattle.ix_graph.specs.declared.graph.Mode.TheVariants.{InPipeline, Tight, Decoupled, Always}
use Rattle.ix_sheet.specs.declared.problem.Node.{Node}
use Rattle.ix_sheet.specs.declared.problem.Problem.{Problem}
use Rattle.ix_sheet.specs.declared.sheet.Sheet.{Sheet}
use Rattle.ix_sheet.specs.Sheets.{IsValidSheet}
use Rattle.ix_sheet.specs.Schedules.{Runs, IsFreePath, delay_along, IsLegal}
use Rattle.ix_sheet.specs.Behaviours.{node_of, edges_from, problem_of}
use Rattle.ix_sweep.specs.Periods.{at_period, FitsAt}

abbrev with_period : List Node → List (ℕ × ℕ) → ℕ → Problem
with_period ops edges n = record { ops = ops; edges = edges; period = n }

runs_same : (ops : List Node) (edges : List (ℕ × ℕ)) (m n i : ℕ) (rest : List ℕ) → Runs (with_period ops edges n) i rest → Runs (with_period ops edges m) i rest
runs_same ops edges m n i [] h = tt
runs_same ops edges m n i (j ∷ rest) h = (h.0, runs_same ops edges m n j rest h.1)

path_same : (ops : List Node) (edges : List (ℕ × ℕ)) (m n : ℕ) (path : List ℕ) → IsFreePath (with_period ops edges n) path → IsFreePath (with_period ops edges m) path
path_same ops edges m n [] h = h
path_same ops edges m n (i ∷ rest) h = (h.0, runs_same ops edges m n i rest h.1)

legal_later : (ops : List Node) (edges : List (ℕ × ℕ)) (m n : ℕ) (t : ℕ → ℕ) → m ≤ n → IsLegal (with_period ops edges m) t → IsLegal (with_period ops edges n) t
legal_later ops edges m n t le legal = record {
  windows = legal.windows;
  edges = legal.edges;
  period = λ path free same.
      (let kept : delay_along (with_period ops edges n) path ≤ m = legal.period path (path_same ops edges m n path free) same in
      omega arith);
}

-- what fits with a period fits with each greater one
pub fits_later : (g : Graph) (sheet : Sheet) (mode : Mode) (p q : ℕ) → p ≤ q → FitsAt g sheet mode p → FitsAt g sheet mode q
unfolding problem_of
fits_later g sheet Always p q le h = (h.0, legal_later (map (node_of sheet Always) (zip g.ops g.spawned)) (edges_from 0 g.ops) p q h.0 le h.1)
fits_later g sheet Decoupled p q le h = (h.0, legal_later (map (node_of sheet Decoupled) (zip g.ops g.spawned)) (edges_from 0 g.ops) p q h.0 le h.1)
fits_later g sheet InPipeline p q le h = (h.0, legal_later (map (node_of sheet InPipeline) (zip g.ops g.spawned)) (edges_from 0 g.ops) p q h.0 le h.1)
fits_later g sheet Tight p q le h = (h.0, legal_later (map (node_of sheet Tight) (zip g.ops g.spawned)) (edges_from 0 g.ops) p q h.0 le h.1)

-- where it does not fit with the greatest period, it fits with none
pub nowhere : (g : Graph) (sheet : Sheet) (mode : Mode) (most : ℕ) → (FitsAt g sheet mode most → ⊥) → (q : ℕ) → q ≤ most → FitsAt g sheet mode q → ⊥
nowhere g sheet mode most none q le h = none (fits_later g sheet mode q most le h)

pub own_forgotten : (sheet : Sheet) (p q : ℕ) → at_period (at_period sheet p) q ≡ at_period sheet q
own_forgotten sheet p q = refl

-- a valid sheet is valid with each period of its range
pub valid_at : (sheet : Sheet) (p : ℕ) → IsValidSheet sheet → 1 ≤ p → p ≤ 1000000 → IsValidSheet (at_period sheet p)
valid_at sheet p valid some most = record { some_period = some; most_period = most; delays = valid.delays; windows = valid.windows }
