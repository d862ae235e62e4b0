-- How operations are reached from a source along free edges, and the chains of a source. No clause of a public call cites this.
use Rattle.std.specs.Prelude.{◌≡◌, ◌≢◌, ℕ, ◌+◌, ◌<◌, ◌≤◌, ◌⊎◌, ◌==◌, ◌&&◌, if◌then◌else◌, ltb, leb, ◌||◌, Bool, true, false, cond, List, [], ◌∷◌, ◌++◌, map, is_some, length, slice_index_or, Option, Some, None, All, AllPairs, Contains}
use Rattle.ix_sheet.specs.declared.problem.Bound.{Bound}
use Rattle.ix_sheet.specs.declared.problem.Bound.TheVariants.{Chain}
use Rattle.ix_sheet.specs.declared.problem.Problem.{Problem}
use Rattle.ix_sheet.specs.Schedules.{node_at, HasFreeEdge, IsFreePath, first_of, last_after, last_of, delay_along, IsAfter}
use Rattle.ix_sheet.specs.Bounds.{IsBoundOf}
use Rattle.ix_problem.specs.declared.reach.Reach.{Reach}
use Rattle.ix_problem.specs.Constraints.{HaveSameEnds, IsGreatest}

abbrev pub delay_at : Problem → ℕ → ℕ
delay_at p k = (node_at p k).delay

-- the starts of the free edges to j among these edges
abbrev pub free_into : Problem → ℕ → List (ℕ × ℕ) → List ℕ
free_into p j [] = []
free_into p j (e ∷ edges) = if (e.1 == j) && ((node_at p e.0).latency == 0) then e.0 ∷ free_into p j edges else free_into p j edges

-- the list has the starts of the free edges to j
abbrev pub AreStartsOf : Problem → ℕ → List ℕ → Type 0
AreStartsOf p j starts = ((k : ℕ) → Contains starts k → HasFreeEdge p k j) × ((k : ℕ) → HasFreeEdge p k j → Contains starts k)

-- and each list of this list those to its operation
abbrev pub AreAllStarts : Problem → List (List ℕ) → Type 0
AreAllStarts p starts = (j : ℕ) → j < length starts → AreStartsOf p j (slice_index_or starts j [])

abbrev pub reach_at : List (Option Reach) → ℕ → Option Reach
reach_at reaches k = slice_index_or reaches k None

-- the better of what was found and of a start
abbrev pub better_of : Option Reach → Option Reach → ℕ → Option Reach
better_of best None start = best
better_of None (Some new) start = Some (record { delay = new.delay; parent = start })
better_of (Some old) (Some new) start = cond (leb new.delay old.delay) (Some old) (Some (record { delay = new.delay; parent = start }))

abbrev pub best_of : List (Option Reach) → Option Reach → List ℕ → Option Reach
best_of reaches best [] = best
best_of reaches best (k ∷ rest) = best_of reaches (better_of best (reach_at reaches k) k) rest

-- how the operation at is reached, where those before it are known
abbrev pub with_delay : ℕ → Option Reach → Option Reach
with_delay delay None = None
with_delay delay (Some best) = Some (record { delay = best.delay + delay; parent = best.parent })

abbrev pub reach_after : List (Option Reach) → ℕ → ℕ → ℕ → List ℕ → Option Reach
reach_after reaches source at delay starts =
    if at == source then Some (record { delay = delay; parent = at }) else with_delay delay (best_of reaches None starts)

-- no delay passes the limit
abbrev pub AreWithin : ℕ → List (Option Reach) → Type 0
AreWithin limit reaches = (k : ℕ) (r : Reach) → reach_at reaches k ≡ Some r → r.delay ≤ limit

-- the reach of an operation is that of the one before it, and the operation's own delay
pub record IsStep (p : Problem) (reaches : List (Option Reach)) (k : ℕ) (r : Reach) : Type 0 where
  pub before : Reach
  pub found : reach_at reaches r.parent ≡ Some before
  pub edge : HasFreeEdge p r.parent k
  pub delay : r.delay ≡ before.delay + delay_at p k

-- j is reached with at least the delay
abbrev pub ReachesWith : List (Option Reach) → ℕ → ℕ → Type 0
ReachesWith reaches j delay = (r : Reach) × (reach_at reaches j ≡ Some r) × (delay ≤ r.delay)

pub record AreReaches (p : Problem) (source : ℕ) (reaches : List (Option Reach)) : Type 0 where
  pub start : source < length reaches → reach_at reaches source ≡ Some (record { delay = delay_at p source; parent = source })
  pub back : (k : ℕ) (r : Reach) → reach_at reaches k ≡ Some r → k ≢ source → IsStep p reaches k r
  pub on : (k j : ℕ) (q : Reach) → j < length reaches → j ≢ source → HasFreeEdge p k j → reach_at reaches k ≡ Some q
      → ReachesWith reaches j (q.delay + delay_at p j)

-- each reach but the source's names an earlier operation that is reached
abbrev pub LeadBack : ℕ → List (Option Reach) → Type 0
LeadBack source reaches = (k : ℕ) (r : Reach) → reach_at reaches k ≡ Some r → k ≢ source → (r.parent < k) × (is_some (reach_at reaches r.parent) ≡ true)

-- each operation of the list is reached from the one before it
abbrev pub Follow : List (Option Reach) → ℕ → ℕ → List ℕ → Type 0
Follow reaches source i [] = Unit {0}
Follow reaches source i (j ∷ rest) = (j ≢ source) × ((r : Reach) × (reach_at reaches j ≡ Some r) × (r.parent ≡ i)) × Follow reaches source j rest

-- a path from the start to the end, whose other operations are not the source
abbrev pub IsTrail : List (Option Reach) → ℕ → ℕ → ℕ → List ℕ → Type 0
IsTrail reaches source start end [] = ⊥
IsTrail reaches source start end (i ∷ rest) = (i ≡ start) × (last_after i rest ≡ end) × Follow reaches source i rest

-- the period is passed at an operation
abbrev pub passes_at : ℕ → Option Reach → Bool
passes_at period None = false
passes_at period (Some r) = ltb period r.delay

abbrev pub passed_at : ℕ → List (Option Reach) → List ℕ → Bool
passed_at period reaches [] = false
passed_at period reaches (k ∷ rest) = passes_at period (reach_at reaches k) || passed_at period reaches rest

-- a path to the end, where the period is passed there and at none of the starts
abbrev pub IsChainOption : ℕ → List (Option Reach) → List ℕ → ℕ → ℕ → Option (List ℕ) → Type 0
IsChainOption period reaches starts source end None = (passes_at period (reach_at reaches end) ≡ false) ⊎ (passed_at period reaches starts ≡ true)
IsChainOption period reaches starts source end (Some path) = IsTrail reaches source source end path × (passes_at period (reach_at reaches end) ≡ true)

abbrev pub IsPassed : Problem → List (Option Reach) → ℕ → Type 0
IsPassed p reaches k = passes_at p.period (reach_at reaches k) ≡ true

-- a chain from the source, of the delay with which its end is reached
pub record IsChainFrom (p : Problem) (source below : ℕ) (reaches : List (Option Reach)) (path : List ℕ) : Type 0 where
  pub free : IsFreePath p path
  pub first : first_of path ≡ source
  pub last : last_of path < below
  pub reach : Reach
  pub found : reach_at reaches (last_of path) ≡ Some reach
  pub delay : delay_along p path ≡ reach.delay
  pub long : p.period < reach.delay

abbrev pub Apart : List ℕ → List ℕ → Type 0
Apart x y = HaveSameEnds x y → ⊥

-- Chains from the source to operations below a number: to each at which the period is passed, unless it is passed at a start of a free edge to it.
pub record AreChainsFrom (p : Problem) (source below : ℕ) (reaches : List (Option Reach)) (paths : List (List ℕ)) : Type 0 where
  pub of : All (IsChainFrom p source below reaches) paths
  pub covers : (j : ℕ) → j < below → IsPassed p reaches j →
      ((path : List ℕ) × Contains paths path × (last_of path ≡ j)) ⊎ ((k : ℕ) × HasFreeEdge p k j × IsPassed p reaches k)
  pub once : AllPairs Apart paths

-- the bounds are those before, and then the chains of a source
pub record HasChainsOf (p : Problem) (source : ℕ) (before after : List Bound) : Type 0 where
  pub reaches : List (Option Reach)
  pub count : length reaches ≡ length p.ops
  pub are : AreReaches p source reaches
  pub paths : List (List ℕ)
  pub chains : AreChainsFrom p source (length p.ops) reaches paths
  pub joined : after ≡ before ++ map Chain paths

-- the last operation of the path is later than the first
abbrev pub Rises : (ℕ → ℕ) → List ℕ → Type 0
Rises t path = t (first_of path) + 1 ≤ t (last_of path)

-- Chains from sources below a number: where times rise along them, they rise along each path from such a source that passes the period.
pub record AreChains (p : Problem) (below : ℕ) (paths : List (List ℕ)) : Type 0 where
  pub of : All (λ path. IsBoundOf p (Chain path)) paths
  pub first : All (λ path. first_of path < below) paths
  pub greatest : All (IsGreatest p) paths
  pub once : AllPairs Apart paths
  pub enough : (t : ℕ → ℕ) → All (IsAfter p t) p.edges → All (Rises t) paths →
      (path : List ℕ) → IsBoundOf p (Chain path) → first_of path < below → Rises t path

pub record HasChains (p : Problem) (below : ℕ) (before after : List Bound) : Type 0 where
  pub paths : List (List ℕ)
  pub chains : AreChains p below paths
  pub joined : after ≡ before ++ map Chain paths
