-- A flow on its way (successive longest paths): what each node still needs and what it has to spare.
use Rattle.std.specs.Prelude.{ℕ, pos, Bool, true, false, ◌≡◌, ◌==◌, if◌then◌else◌, [], ◌∷◌, ◌+◌, ◌≤◌, ◌<◌, ◌^◌, List, length, map, slice_index, sum_by, take, All}
use Rattle.ix_sheet.specs.declared.problem.Arc.{Arc}
use Rattle.ix_sheet.specs.declared.problem.Bound.{Bound}
use Rattle.ix_sheet.specs.declared.problem.Problem.{Problem}
use Rattle.ix_sheet.specs.Bounds.{Meets, IsTight, turned, arc_of, weight_in, weight_out}
use Rattle.ix_residual.specs.declared.residual.Path.{Path}
use Rattle.ix_residual.specs.declared.residual.Residual.{Residual}
use Rattle.ix_residual.specs.Residuals.{Step, need_of, spare_of, left_at, replayed, AreAugmentations}
use Rattle.ix_residual.specs.Balances.{fresh, balances, AreLongest}
use Rattle.ix_solve.specs.declared.network.Network.{Network}
use Rattle.ix_solve.specs.declared.search.TheConstants.{LIMIT}
use Rattle.ix_solve.specs.Search.{arc_at, IsFeasible}
use Rattle.ix_solve.specs.Networks.{IsNetwork, IsResidual, IsTightPath}
use Rattle.ix_solve.specs.declared.meet.Met.{Met}
use Rattle.ix_solve.specs.Flows.{flow_in, flow_out}

-- times meet the inequalities, and with equality each that carries an amount
pub record HasTimes (n : ℕ) (arcs : List Arc) (amounts : List ℕ) : Type 0 where
  pub times : ℕ → ℕ
  pub low : (v : ℕ) → v ≤ n → times v ≤ LIMIT
  pub met : All (Meets times) arcs
  pub used : (k : ℕ) → k < length arcs → 0 < slice_index amounts k → IsTight times (arc_at arcs k)

-- .. as these times do
pub record AreTimes (n : ℕ) (arcs : List Arc) (amounts : List ℕ) (t : ℕ → ℕ) : Type 0 where
  pub low : (v : ℕ) → v ≤ n → t v ≤ LIMIT
  pub met : All (Meets t) arcs
  pub used : (k : ℕ) → k < length arcs → 0 < slice_index amounts k → IsTight t (arc_at arcs k)

-- what the nodes need is what they have to spare, no amount can pass 2 ^ 64, and amounts and what is left come to the balances
pub record IsState (p : Problem) (bounds : List Bound) (r : Residual) : Type 0 where
  pub bounds_same : r.bounds ≡ bounds
  pub amounts_len : length r.amounts ≡ length bounds
  pub left_len : length r.left ≡ length p.ops + 1
  pub held : HasTimes (length p.ops) (map (arc_of p) bounds) r.amounts
  pub even : sum_by need_of r.left ≡ sum_by spare_of r.left
  pub room : (k : ℕ) → k < length bounds → slice_index r.amounts k + sum_by need_of r.left < 2 ^ 64
  pub balanced : (v : ℕ) → v < length p.ops →
      flow_in (map (arc_of p) bounds) r.amounts v + need_of (left_at r v) + weight_out p v ≡ flow_out (map (arc_of p) bounds) r.amounts v + spare_of (left_at r v) + (1 + weight_in p v)

-- the amounts have moved along these paths, each a longest one at its turn; each path has lowered what is needed
pub record IsReplay (p : Problem) (bounds : List Bound) (r : Residual) (paths : List Path) : Type 0 where
  pub same : replayed (fresh p bounds) paths ≡ r
  pub turns : AreAugmentations (fresh p bounds) paths
  pub longest : AreLongest p (fresh p bounds) paths
  pub few : length paths + sum_by need_of r.left ≤ sum_by need_of (balances p)

-- the inequalities of the bounds, not moved
pub record IsNetworkOf (p : Problem) (bounds : List Bound) (net : Network) : Type 0 where
  pub is : IsNetwork net
  pub root : net.root ≡ length p.ops
  pub count : net.bounds ≡ length bounds
  pub kept : take net.bounds net.arcs.items ≡ map (arc_of p) bounds

-- a flow on its way, the paths that made it, and times that go with it
pub record IsOnWay (p : Problem) (bounds : List Bound) (net : Network) (t : ℕ → ℕ) (r : Residual) (paths : List Path) : Type 0 where
  pub state : IsState p bounds r
  pub replay : IsReplay p bounds r paths
  pub network : IsNetworkOf p bounds net
  pub times : AreTimes (length p.ops) (map (arc_of p) bounds) r.amounts t

-- all that steps go against carries an amount
abbrev pub are_carried : List ℕ → List Step → Bool
are_carried amounts [] = true
are_carried amounts (s ∷ rest) = if s.1 then are_carried amounts rest else (if slice_index amounts s.0 == 0 then false else are_carried amounts rest)

-- a path that the times meet with equality, from a node that has to spare to one that needs, and an amount can move along it
pub record IsOpen (net : Network) (t : ℕ → ℕ) (r : Residual) (a b : ℕ) (path : Path) : Type 0 where
  pub tight : IsTightPath net.arcs.items net.bounds t a b path.steps
  pub carried : are_carried r.amounts path.steps ≡ true
  pub source_in : a ≤ net.root
  pub target_in : b ≤ net.root
  pub spare : 0 < spare_of (left_at r a)
  pub need : 0 < need_of (left_at r b)

-- .. from some node
pub record LeadsTo (net : Network) (t : ℕ → ℕ) (r : Residual) (b : ℕ) (path : Path) : Type 0 where
  pub source : ℕ
  pub is : IsOpen net t r source b path

-- all is met, and the network is that of the amounts
pub record IsMet (p : Problem) (bounds : List Bound) (net : Network) (met : Met) : Type 0 where
  pub state : IsState p bounds met.residual
  pub replay : IsReplay p bounds met.residual met.paths
  pub none_left : All (λ x. x ≡ pos 0) met.residual.left
  pub network : IsNetworkOf p bounds net
  pub residual : IsResidual met.residual.amounts net
  pub feasible : IsFeasible net.root net.arcs.items

-- the times meet the inequalities, and turned round those that carry an amount, and none that do so are less anywhere
pub record AreLeastOver (n : ℕ) (arcs : List Arc) (amounts times : List ℕ) : Type 0 where
  pub len : length times ≡ n + 1
  pub root : slice_index times n ≡ 0
  pub met : All (Meets (slice_index times)) arcs
  pub back : (k : ℕ) → k < length arcs → 0 < slice_index amounts k → Meets (slice_index times) (turned (arc_at arcs k))
  pub least : (t : ℕ → ℕ) → t n ≡ 0 → All (Meets t) arcs → ((k : ℕ) → k < length arcs → 0 < slice_index amounts k → Meets t (turned (arc_at arcs k))) →
      (v : ℕ) → v ≤ n → slice_index times v ≤ t v
