-- Longest walks over inequalities, kept as a log of steps (longest paths by relaxation; the log is this project's choice).
-- Times are functions of a node; the root is the last node, whose time is 0.
use Rattle.std.specs.Prelude.{ℕ, ◌≡◌, ◌≢◌, ◌+◌, ◌≤◌, ◌<◌, ◌⊎◌, List, [], ◌∷◌, length, slice_index, slice_index_or, sum_by, All, sum}
use Rattle.ix_sheet.specs.declared.problem.Arc.{Arc}
use Rattle.ix_sheet.specs.Bounds.{Meets}
use Rattle.ix_solve.specs.declared.search.Step.{Step}
use Rattle.ix_solve.specs.declared.search.Search.{Search}
use Rattle.ix_solve.specs.declared.search.Begun.{Begun}
use Rattle.ix_solve.specs.declared.search.TheConstants.{LIMIT}
use Rattle.ix_solve.specs.declared.network.Network.{Network}
use Rattle.ix_solve.specs.declared.relax.Relaxed.{Relaxed}
use Rattle.ix_solve.specs.declared.relax.Relaxed.TheVariants as relaxed
use Rattle.ix_solve.specs.declared.relax.Round.{Round}
use Rattle.ix_solve.specs.declared.relax.Round.TheVariants as rounds

-- what is read past the end of arcs
abbrev pub no_arc : Arc
no_arc = record { from = 0; to = 0; up = 0; down = 0 }

-- what is read past the end of a log
abbrev pub no_step : Step
no_step = record { arc = no_arc; place = 0; parent = 0; reached = 0 }

-- the step of a number
abbrev pub step_at : List Step → ℕ → Step
step_at log k = slice_index_or log k no_step

-- the arc at a place
abbrev pub arc_at : List Arc → ℕ → Arc
arc_at arcs k = slice_index_or arcs k no_arc

-- how far the walks reach at a node
abbrev pub reach_at : Search → ℕ → ℕ
reach_at s = slice_index s.reach.items

-- both ends are operations or the root
abbrev pub IsInside : ℕ → Arc → Type 0
IsInside n a = (a.from ≤ n) × (a.to ≤ n)

-- the step k prolongs its parent's walk by one arc
pub record IsStep (arcs : List Arc) (log : List Step) (k : ℕ) : Type 0 where
  pub earlier : (step_at log k).parent < k
  pub joined : (step_at log k).arc.from ≡ (step_at log (step_at log k).parent).arc.to
  pub longer : (step_at log k).reached + (step_at log k).arc.down ≡ (step_at log (step_at log k).parent).reached + (step_at log k).arc.up
  pub placed : ((step_at log k).place < length arcs) × (arc_at arcs (step_at log k).place ≡ (step_at log k).arc)

-- the node v was reached by its last step
pub record IsReached (reach last : List ℕ) (log : List Step) (v : ℕ) : Type 0 where
  pub within : slice_index last v < length log
  pub ends : (step_at log (slice_index last v)).arc.to ≡ v
  pub same : (step_at log (slice_index last v)).reached ≡ slice_index reach v

-- walks from the source, which begins with `base`, to each node, none of which comes to more than `cap`
pub record HasReached (n source base cap : ℕ) (arcs : List Arc) (reach last : List ℕ) (log : List Step) : Type 0 where
  pub reach_len : length reach ≡ n + 1
  pub last_len : length last ≡ n + 1
  pub some : 0 < length log
  pub first_to : (step_at log 0).arc.to ≡ source
  pub first_reached : (step_at log 0).reached ≡ base
  pub steps : (k : ℕ) → 0 < k → k < length log → IsStep arcs log k
  pub nodes : (v : ℕ) → v ≤ n → IsReached reach last log v
  pub root : slice_index reach source ≡ base
  pub low : (v : ℕ) → v ≤ n → slice_index reach v ≤ cap
  pub top : (j : ℕ) → j < length log → (step_at log j).reached ≤ slice_index reach (step_at log j).arc.to
  pub strict : (j k : ℕ) → j < k → k < length log → (step_at log j).arc.to ≡ (step_at log k).arc.to → (step_at log j).reached < (step_at log k).reached

-- .. which begins with the limit, so that no walk comes to more than twice the limit
abbrev pub IsSearch : Network → Search → Type 0
IsSearch net s = HasReached net.root s.source LIMIT (LIMIT + LIMIT) net.arcs.items s.reach.items s.last.items s.log.items

-- following the arc comes back to the source, or passes twice the limit
abbrev pub IsLate : Search → Arc → Type 0
IsLate s a = (a.to ≡ s.source) ⊎ (LIMIT + LIMIT + a.down < reach_at s a.from + a.up)

-- the arc at the place is not met, and it is late
pub record IsOverdue (net : Network) (s : Search) (k : ℕ) : Type 0 where
  pub within : k < length net.arcs.items
  pub unmet : reach_at s (arc_at net.arcs.items k).to + (arc_at net.arcs.items k).down < reach_at s (arc_at net.arcs.items k).from + (arc_at net.arcs.items k).up
  pub late : IsLate s (arc_at net.arcs.items k)

-- the walks to the first i nodes (and to e more without an entry), and the steps to the source and to the root
pub record HasBegun (n source base cap hub at : ℕ) (arcs : List Arc) (i e : ℕ) (reach last : List ℕ) (log : List Step) : Type 0 where
  pub reach_len : length reach ≡ i
  pub last_len : length last ≡ i
  pub hub_in : hub < length log
  pub hub_to : (step_at log hub).arc.to ≡ n
  pub hub_at : (step_at log hub).reached ≡ at
  pub hub_low : at ≤ base
  pub hub_source : source ≡ n → hub ≡ 0
  pub first_to : (step_at log 0).arc.to ≡ source
  pub first_reached : (step_at log 0).reached ≡ base
  pub steps : (k : ℕ) → 0 < k → k < length log → IsStep arcs log k
  pub nodes : (v : ℕ) → v < i → IsReached reach last log v
  pub root : source < i → slice_index reach source ≡ base
  pub low : (v : ℕ) → v < i → slice_index reach v ≤ cap
  pub top : (j : ℕ) → j < length log → (step_at log j).arc.to < i → (step_at log j).reached ≤ slice_index reach (step_at log j).arc.to
  pub far : (j : ℕ) → j < length log → i + e ≤ (step_at log j).arc.to → (j ≡ 0) ⊎ (j ≡ hub)
  pub apart : (j k : ℕ) → j < k → k < length log → (step_at log j).arc.to ≢ (step_at log k).arc.to
  pub inside : (k : ℕ) → 0 < k → k < length log → (step_at log k).arc.to ≤ n

-- .. as the first walks have them, which begin with the limit
abbrev pub IsBegun : ℕ → ℕ → List Arc → ℕ → ℕ → Begun → Type 0
IsBegun n source arcs i e st = HasBegun n source LIMIT (LIMIT + LIMIT) st.hub st.at arcs i e st.reach.items st.last.items st.log.items

-- the first arcs give each operation a first time, and the next ones a last time
pub record IsFramed (n : ℕ) (arcs : List Arc) : Type 0 where
  pub enough : n + n ≤ length arcs
  pub early : (v : ℕ) → v < n → ((arc_at arcs v).from ≡ n) × ((arc_at arcs v).to ≡ v) × ((arc_at arcs v).up ≤ LIMIT) × ((arc_at arcs v).down ≡ 0)
  pub late : (v : ℕ) → v < n → ((arc_at arcs (n + v)).from ≡ v) × ((arc_at arcs (n + v)).to ≡ n) × ((arc_at arcs (n + v)).up ≡ 0) × ((arc_at arcs (n + v)).down ≤ LIMIT)
  pub inside : All (IsInside n) arcs

-- the arcs at these places lead from a to b
abbrev pub Leads : List Arc → ℕ → List ℕ → ℕ → Type 0
Leads arcs a [] b = a ≡ b
Leads arcs a (k ∷ ks) b = ((arc_at arcs k).from ≡ a) × Leads arcs (arc_at arcs k).to ks b

-- the sums of what the numbers of these arcs add and take off
abbrev pub ups : List Arc → List ℕ → ℕ
ups arcs = sum_by (λ k. (arc_at arcs k).up)

abbrev pub downs : List Arc → List ℕ → ℕ
downs arcs = sum_by (λ k. (arc_at arcs k).down)

-- the arcs at these places lead back to where they start, and their numbers sum to more than 0
pub record IsClosed (arcs : List Arc) (cycle : List ℕ) : Type 0 where
  pub within : All (λ k. k < length arcs) cycle
  pub closed : (a : ℕ) × Leads arcs a cycle a
  pub positive : downs arcs cycle < ups arcs cycle

-- what came of one arc: it was met, its end was raised, or it is late
abbrev pub IsRelaxed : Arc → Search → Search → Relaxed → Type 0
IsRelaxed arc old new relaxed.Met = Meets (reach_at new) arc × (new.reach.items ≡ old.reach.items)
IsRelaxed arc old new relaxed.Raised = sum old.reach.items < sum new.reach.items
IsRelaxed arc old new relaxed.Late = (reach_at new arc.to + arc.down < reach_at new arc.from + arc.up) × IsLate new arc

-- what came of all arcs
abbrev pub IsRound : Network → Search → Search → Round → Type 0
IsRound net old new rounds.Settled = All (Meets (reach_at new)) net.arcs.items
IsRound net old new rounds.Raised = sum old.reach.items < sum new.reach.items
IsRound net old new (rounds.Late place) = IsOverdue net new place

-- the times meet the arcs, and none that do so are less anywhere
pub record AreLeast (n : ℕ) (arcs : List Arc) (times : List ℕ) : Type 0 where
  pub len : length times ≡ n + 1
  pub root : slice_index times n ≡ 0
  pub met : All (Meets (slice_index times)) arcs
  pub least : (t : ℕ → ℕ) → All (Meets t) arcs → t n ≡ 0 → (v : ℕ) → v ≤ n → slice_index times v ≤ t v

-- steps, each prolonging the one before, from the step k to the node t
abbrev pub Follows : List Step → ℕ → List ℕ → ℕ → Type 0
Follows log k [] t = (step_at log k).arc.to ≡ t
Follows log k (j ∷ js) t = ((step_at log j).parent ≡ k) × (j < length log) × Follows log j js t

-- no node is come to twice
abbrev pub AreApart : List Step → ℕ → List ℕ → Type 0
AreApart log k [] = Unit {0}
AreApart log k (j ∷ js) = All (λ i. (step_at log i).arc.to ≢ (step_at log k).arc.to) (j ∷ js) × AreApart log j js

-- times within the limit meet the arcs
pub record IsFeasible (n : ℕ) (arcs : List Arc) : Type 0 where
  pub times : ℕ → ℕ
  pub low : (v : ℕ) → v ≤ n → times v ≤ LIMIT
  pub met : All (Meets times) arcs
