-- What the functions of the check tell. No clause of a public call cites this.
use Rattle.std.specs.Prelude.{◌≡◌, ℕ, ◌+◌, ◌*◌, ◌<◌, ◌≤◌, ◌==◌, ◌&&◌, Bool, true, false, List, [], ◌∷◌, ◌++◌, map, length, slice_index, slice_index_or, sum_by, All, AllPairs, Result, Ok, Err, ◌≢◌, Option, Some, None, nat_lt, nat_le, ◌||◌}
use Rattle.std.specs.List.{list_any}
use Rattle.ix_sheet.specs.declared.problem.Bound.{Bound}
use Rattle.ix_sheet.specs.declared.problem.Bound.TheVariants.{Early, Late, Dep, Chain}
use Rattle.ix_sheet.specs.declared.problem.Problem.{Problem}
use Rattle.ix_sheet.specs.Schedules.{IsValidProblem, node_at, weight_of, IsFreePath, first_of, last_of, delay_along}
use Rattle.ix_sheet.specs.Bounds.{arc_of, Flow, amount_at}
use Rattle.ix_graph.specs.declared.graph.Mode.{Mode}
use Rattle.ix_cert.specs.declared.report.ReportBlock.{ReportBlock}
use Rattle.ix_cert.specs.declared.report.CertErr.{CertErr}
use Rattle.ix_cert.specs.declared.report.CertErr.TheVariants.{Memory}
use Rattle.ix_cert.specs.Layout.{IsBefore, IsNodeInForm, IsBoundInForm}
use Rattle.ix_cert.specs.Faults.{Step, IsFirstFault, HasNoFault, block_count}

-- the first bad item, or that there is none
abbrev pub Tells : ℕ → (ℕ → Type 0) → Option ℕ → Type 0
Tells items IsBad None = (k : ℕ) → k < items → IsBad k → ⊥
Tells items IsBad (Some k) = (k < items) × IsBad k × ((j : ℕ) → j < k → IsBad j → ⊥)

-- the times keep the edge
abbrev pub keeps_edge : Problem → (ℕ → ℕ) → ℕ × ℕ → Bool
keeps_edge p t e = nat_le (t e.0 + (node_at p e.0).latency) (t e.1)

-- ---- bounds
abbrev pub is_before : ℕ × ℕ → ℕ × ℕ → Bool
is_before e f = nat_lt e.1 f.1 || ((e.1 == f.1) && nat_lt e.0 f.0)

abbrev pub is_edge : ℕ × ℕ → ℕ × ℕ → Bool
is_edge e f = (e.0 == f.0) && (e.1 == f.1)

abbrev pub has_edge : List (ℕ × ℕ) → ℕ → ℕ → Bool
has_edge edges i j = list_any (is_edge (i, j)) edges

-- a free edge joins the operations
abbrev pub is_joined : Problem → ℕ → ℕ → Bool
is_joined p i j = has_edge p.edges i j && ((node_at p i).latency == 0)

-- each operation is joined to the one before it by a free edge
abbrev pub has_runs : Problem → ℕ → List ℕ → Bool
has_runs p i [] = true
has_runs p i (j ∷ rest) = is_joined p i j && has_runs p j rest

abbrev pub has_all_runs : Problem → List ℕ → Bool
has_all_runs p [] = true
has_all_runs p (i ∷ rest) = has_runs p i rest

abbrev pub has_free_path : Problem → List ℕ → Bool
has_free_path p [] = false
has_free_path p (i ∷ rest) = nat_lt i (length p.ops) && has_runs p i rest

abbrev pub names_bound : Problem → Bound → Bool
names_bound p (Early k) = nat_lt k (length p.ops)
names_bound p (Late k) = nat_lt k (length p.ops)
names_bound p (Dep i j) = has_edge p.edges i j
names_bound p (Chain path) = has_free_path p path && nat_lt p.period (delay_along p path)

-- ---- delays within one time
-- a path within one time to k, of this delay
pub record IsReachedWith (p : Problem) (t : ℕ → ℕ) (k delay : ℕ) : Type 0 where
  pub path : List ℕ
  pub free : IsFreePath p path
  pub one_time : All (λ i. t i ≡ t (first_of path)) path
  pub last : last_of path ≡ k
  pub total : delay_along p path ≡ delay

-- the edge is free, and both ends have one time
abbrev pub IsJoining : Problem → (ℕ → ℕ) → ℕ × ℕ → Type 0
IsJoining p t e = ((node_at p e.0).latency ≡ 0) × (t e.0 ≡ t e.1)

abbrev pub joins_edge : Problem → (ℕ → ℕ) → ℕ × ℕ → Bool
joins_edge p t e = ((node_at p e.0).latency == 0) && (t e.0 == t e.1)

abbrev pub delay_at : Problem → ℕ → ℕ
delay_at p k = (node_at p k).delay

abbrev pub Exceeds : Problem → List ℕ → ℕ × ℕ → Type 0
Exceeds p reach e = slice_index reach e.0 + delay_at p e.1 ≤ slice_index reach e.1

-- the delay of operation k is at most k + 1 times the greatest
abbrev pub AreSmall : List ℕ → Type 0
AreSmall reach = (k : ℕ) → slice_index reach k ≤ (k + 1) * 4294967295

-- each operation is reached with its delay, and along the first edges none is reached with more
pub record AreReached (p : Problem) (t : ℕ → ℕ) (edges : ℕ) (reach : List ℕ) : Type 0 where
  pub count : length reach ≡ length p.ops
  pub reached : (k : ℕ) → k < length p.ops → IsReachedWith p t k (slice_index reach k)
  pub own : (k : ℕ) → k < length p.ops → delay_at p k ≤ slice_index reach k
  pub passed : (m : ℕ) → m < edges → IsJoining p t (slice_index_or p.edges m (0, 0)) → Exceeds p reach (slice_index_or p.edges m (0, 0))

-- ---- amounts
-- for each operation what the parts at it amount to
abbrev pub AreAmounts : ℕ → List (ℕ × ℕ) → List ℕ → Type 0
AreAmounts count parts amounts = (length amounts ≡ count) × ((k : ℕ) → k < count → slice_index amounts k ≡ amount_at (λ x. x.0) (λ x. x.1) parts k)

-- the flow into operations and the weights of the edges out of them; the flow out of operations and the weights of the edges into them
abbrev pub parts_in : Problem → Flow → List (ℕ × ℕ)
parts_in p flow = map (λ c. ((arc_of p c.0).to, c.1)) flow ++ map (λ e. (e.0, weight_of (node_at p e.0))) p.edges

abbrev pub parts_out : Problem → Flow → List (ℕ × ℕ)
parts_out p flow = map (λ c. ((arc_of p c.0).from, c.1)) flow ++ map (λ e. (e.1, weight_of (node_at p e.0))) p.edges

-- ---- the value of a flow
abbrev pub up_of : Problem → Bound × ℕ → ℕ
up_of p c = c.1 * (arc_of p c.0).up

abbrev pub down_of : Problem → Bound × ℕ → ℕ
down_of p c = c.1 * (arc_of p c.0).down

abbrev pub ups_of : Problem → Flow → ℕ
ups_of p flow = sum_by (up_of p) flow

abbrev pub downs_of : Problem → Flow → ℕ
downs_of p flow = sum_by (down_of p) flow

abbrev pub has_value : Problem → Flow → ℕ → Bool
has_value p flow value =
    ups_of p flow == value + downs_of p flow + sum_by (λ e. weight_of (node_at p e.0) * (node_at p e.0).latency) p.edges

-- ---- steps
-- no fault, or the first
abbrev pub Judges : List Step → Result (Unit {0}) CertErr → Type 0
Judges steps (Ok done) = HasNoFault steps
Judges steps (Err e) = e ≢ Memory → IsFirstFault steps e

-- the lines of behaviours
abbrev pub lines_in : List ReportBlock → ℕ
lines_in blocks = sum_by block_count blocks

-- what the check of a behaviour's certificate rests on
pub record IsReady (b : ReportBlock) : Type 0 where
  pub valid : IsValidProblem b.problem
  pub ordered : AllPairs IsBefore b.problem.edges
  pub nodes : All IsNodeInForm b.problem.ops

pub record IsReadySchedule (b : ReportBlock) : Type 0 where
  pub ready : IsReady b
  pub times : length b.times ≡ length b.problem.ops
  pub form : All (λ part. IsBoundInForm (length b.problem.ops) part.0) b.flow
  pub few : length b.flow < 4294967296

pub record IsReadyCycle (b : ReportBlock) : Type 0 where
  pub ready : IsReady b
  pub form : All (IsBoundInForm (length b.problem.ops)) b.cycle

abbrev pub IsReadyIn : ReportBlock → Option Mode → Type 0
IsReadyIn b None = IsReadyCycle b
IsReadyIn b (Some mode) = IsReadySchedule b
