-- Paths along free edges.
use Rattle.std.proofs.Common.{◌≡◌, ℕ, ◌-◌, ◌≤◌, ◌<◌, List, [], ◌∷◌, length, get_or, refl, arith}
use Rattle.std.specs.Prelude.{All}
use Rattle.std.proofs.lemmas.List.Elements.{All-contains, All-cons, All-nil, All-head, All-tail}
use Rattle.ix_sheet.specs.declared.problem.Problem.{Problem}
use Rattle.ix_sheet.specs.Schedules.{IsValidProblem, IsForward, HasFreeEdge, Runs, IsFreePath, first_of, last_after, last_of, IsAfter}

edge_up : (p : Problem) (t : ℕ → ℕ) (i j : ℕ) → All (IsAfter p t) p.edges → HasFreeEdge p i j → t i ≤ t j
edge_up p t i j kept e = let after : IsAfter p t (i, j) = All-contains (IsAfter p t) p.edges (i, j) kept e.0 in omega (arith, e.1)

-- a path ends at an operation
pub last_within : (p : Problem) (i : ℕ) (rest : List ℕ) → IsValidProblem p → i < length p.ops → Runs p i rest → last_after i rest < length p.ops
last_within p i [] valid h r = h
last_within p i (j ∷ rest) valid h r =
    let forward : IsForward p (i, j) = All-contains (IsForward p) p.edges (i, j) valid.forward r.0.0 in
    last_within p j rest valid forward.1 r.1

-- times do not fall along a path
run_up : (p : Problem) (t : ℕ → ℕ) (i : ℕ) (rest : List ℕ) → All (IsAfter p t) p.edges → Runs p i rest → t i ≤ t (last_after i rest)
run_up p t i [] kept r = omega arith
run_up p t i (j ∷ rest) kept r =
    let a = edge_up p t i j kept r.0 in
    let b = run_up p t j rest kept r.1 in
    omega arith

-- where the last time is not above the first, all are the same
run_same : (p : Problem) (t : ℕ → ℕ) (x i : ℕ) (rest : List ℕ) →
    All (IsAfter p t) p.edges → Runs p i rest → t i ≡ x → t (last_after i rest) ≤ x → All (λ k. t k ≡ x) rest
run_same p t x i [] kept r e h = All-nil (λ k. t k ≡ x)
run_same p t x i (j ∷ rest) kept r e h =
    let a = edge_up p t i j kept r.0 in
    let b = run_up p t j rest kept r.1 in
    let here : t j ≡ x = omega arith in
    All-cons (λ k. t k ≡ x) j rest here (run_same p t x j rest kept r.1 here h)

-- a path whose last time is not above its first has one time
pub path_same : (p : Problem) (t : ℕ → ℕ) (path : List ℕ) →
    All (IsAfter p t) p.edges → IsFreePath p path → t (last_of path) ≤ t (first_of path) → All (λ k. t k ≡ t (first_of path)) path
path_same p t [] kept r h = absurd r
path_same p t (i ∷ rest) kept r h = All-cons (λ k. t k ≡ t i) i rest refl (run_same p t (t i) i rest kept r.1 refl h)

last_same : (t : ℕ → ℕ) (x i : ℕ) (rest : List ℕ) → t i ≡ x → All (λ k. t k ≡ x) rest → t (last_after i rest) ≡ x
last_same t x i [] e h = e
last_same t x i (j ∷ rest) e h = last_same t x j rest (All-head (λ k. t k ≡ x) j rest h) (All-tail (λ k. t k ≡ x) j rest h)

-- a path at one time ends at that time
pub path_ends : (t : ℕ → ℕ) (path : List ℕ) → All (λ k. t k ≡ t (first_of path)) path → t (last_of path) ≡ t (first_of path)
path_ends t [] h = refl
path_ends t (i ∷ rest) h = last_same t (t i) i rest refl (All-tail (λ k. t k ≡ t i) i rest h)

pub first_inside : (p : Problem) (path : List ℕ) → IsFreePath p path → first_of path < length p.ops
first_inside p [] r = absurd r
first_inside p (i ∷ rest) r = r.0

pub last_inside : (p : Problem) (path : List ℕ) → IsValidProblem p → IsFreePath p path → last_of path < length p.ops
last_inside p [] valid r = absurd r
last_inside p (i ∷ rest) valid r = last_within p i rest valid r.0 r.1

pub first_at : (path : List ℕ) → get_or path 0 0 ≡ first_of path
first_at [] = refl
first_at (i ∷ rest) = refl

last_after-at : (i : ℕ) (rest : List ℕ) → get_or (i ∷ rest) (length rest) 0 ≡ last_after i rest
last_after-at i [] = refl
last_after-at i (j ∷ rest) = last_after-at j rest

pub last_at : (path : List ℕ) → get_or path (length path - 1) 0 ≡ last_of path
last_at [] = refl
last_at (i ∷ rest) =
    let place : length (i ∷ rest) - 1 ≡ length rest = omega arith in
    rw place (last_after-at i rest)
