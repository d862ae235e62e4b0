-- A longest path over a network, as a path over the bounds of the problem.
use Rattle.std.proofs.Common.{◌≡◌, ℕ, zero, suc, ◌≢◌, ◌+◌, ◌-◌, ◌≤◌, ◌<◌, cond, Bool, true, false, List, [], ◌∷◌, length, get_or, refl, sym, ◌∙◌, ap, arith, add-one, ◌⊎◌, inl, inr}
use Rattle.std.specs.Prelude.{All, sum_by}
use Rattle.std.proofs.lemmas.List.{get_or-take, get_or_default}
use Rattle.std.proofs.lemmas.List.Elements.{All-contains, All-from_get_or}
use Rattle.std.proofs.lemmas.List.Sums.{sum_by-cons}
use Rattle.ix_sheet.specs.declared.problem.Arc.{Arc}
use Rattle.ix_sheet.specs.declared.problem.Bound.{Bound}
use Rattle.ix_sheet.specs.declared.problem.Problem.{Problem}
use Rattle.ix_sheet.specs.Bounds.{arc_of, Meets, IsTight, turned}
use Rattle.ix_residual.specs.declared.residual.Path.{Path}
use Rattle.ix_residual.specs.declared.residual.Residual.{Residual}
use Rattle.ix_residual.specs.Residuals.{bound_at, place_at, before, behind, from_of, to_of, root_of, source_of, target_of, IsResidualPath}
use Rattle.ix_residual.specs.Balances.{step_up, step_down, IsLongest}
use Rattle.ix_solve.specs.declared.network.Network.{Network}
use Rattle.ix_solve.specs.declared.search.TheConstants.{LIMIT}
use Rattle.ix_solve.specs.Search.{no_arc, arc_at, IsFeasible, AreLeast}
use Rattle.ix_solve.proofs.Starts.{above_root}
use Rattle.ix_solve.specs.Networks.{step_from, step_to, node_after, IsResidual, IsTightPath, IsLongestPath}
use Rattle.ix_solve.specs.Flows.{IsWalk}
use Rattle.ix_solve.specs.State.{HasTimes, AreTimes, IsNetworkOf, AreLeastOver}
use Rattle.ix_solve.proofs.Links.{arcs_for, arc_there, arcs_long, from_there, to_there}

-- a path between two nodes, and times at which its bounds are met with equality
pub record IsFound (n : ℕ) (arcs : List Arc) (amounts : List ℕ) (t : ℕ → ℕ) (a b : ℕ) (steps : List (ℕ × Bool)) : Type 0 where
  pub walk : IsWalk arcs a steps
  pub ends : node_after arcs a steps (length steps) ≡ b
  pub carried : (k : ℕ) → k < length steps → (place_at steps k).1 ≡ false → 0 < get_or amounts (place_at steps k).0 0
  pub held : AreTimes n arcs amounts t
  pub tight : (k : ℕ) → k < length steps → IsTight t (arc_at arcs (place_at steps k).0)

-- the network's first inequalities are those of the bounds
first_there : (p : Problem) (bounds : List Bound) (net : Network) (k : ℕ) → IsNetworkOf p bounds net → k < length bounds → arc_at net.arcs.items k ≡ arc_at (arcs_for p bounds) k
first_there p bounds net k h b =
    let k_in : k < net.bounds = omega (arith, h.count) in
    sym (get_or-take net.bounds net.arcs.items k no_arc k_in) ∙ ap (λ xs. get_or xs k no_arc) h.kept

both_ways : (t : ℕ → ℕ) (a : Arc) → Meets t a → Meets t (turned a) → IsTight t a
both_ways t a along back = omega arith

-- what meets a network meets its bounds, and those that carry an amount with equality
pub held_by : (p : Problem) (bounds : List Bound) (net : Network) (amounts : List ℕ) (t : ℕ → ℕ) → IsNetworkOf p bounds net → IsResidual amounts net →
    ((v : ℕ) → v ≤ net.root → t v ≤ LIMIT) → All (Meets t) net.arcs.items → AreTimes (length p.ops) (arcs_for p bounds) amounts t
held_by p bounds net amounts t h res low met =
    let m = net.bounds in
    let len = h.is.len in
    let along : (k : ℕ) → k < length bounds → Meets t (arc_at (arcs_for p bounds) k)
    = λ k b.
    (let here : Meets t (arc_at net.arcs.items k) = met k no_arc (omega (arith, h.count)) in
    rw (first_there p bounds net k h b) at here) in
    record {
      low = λ v b. low v (rw h.root b);
      met = All-from_get_or (Meets t) (arcs_for p bounds) no_arc (λ k b. along k (omega (arith, arcs_long p bounds)));
      used = λ k b some.
          (let k_in : k < length bounds = omega (arith, arcs_long p bounds) in
          let found = res.each k (omega (arith, h.count)) some in
          let i = found.0 in
          let e : get_or net.back.items i 0 ≡ k = get_or_default net.back.items i 0 k found.1 ∙ found.2 in
          let a = h.is.against i found.1 in
          let other : Meets t (arc_at net.arcs.items (m + i)) = met (m + i) no_arc (omega (arith, found.1)) in
          let back : Meets t (turned (arc_at net.arcs.items (get_or net.back.items i 0))) = rw a.1 at other in
          let there : Meets t (turned (arc_at (arcs_for p bounds) k)) = rw (e, first_there p bounds net k h k_in) at back in
          both_ways t (arc_at (arcs_for p bounds) k) (along k k_in) there);
    }

below_or_not : (k n : ℕ) → (k < n) ⊎ (n ≤ k)
below_or_not k n = grind arith

-- and back: times that meet the bounds, and turned round those that carry an amount, meet the network
pub network_met : (p : Problem) (bounds : List Bound) (net : Network) (amounts : List ℕ) (t : ℕ → ℕ) → IsNetworkOf p bounds net → IsResidual amounts net → All (Meets t) (arcs_for p bounds) →
    ((k : ℕ) → k < length (arcs_for p bounds) → 0 < get_or amounts k 0 → Meets t (turned (arc_at (arcs_for p bounds) k))) → All (Meets t) net.arcs.items
network_met p bounds net amounts t h res first back =
    let m = net.bounds in
    let len = h.is.len in
    All-from_get_or (Meets t) net.arcs.items no_arc
    (λ i b. elim (below_or_not i m) [
      | inl low ↦
          (let k_in : i < length bounds = omega (arith, h.count) in
          let here : Meets t (arc_at (arcs_for p bounds) i) = first i no_arc (omega (arith, arcs_long p bounds)) in
          rw (first_there p bounds net i h k_in) here)
      | inr high ↦
          (let j = i - m in
          let j_in : j < length net.back.items = omega arith in
          let sum : m + j ≡ i = omega arith in
          let a = h.is.against j j_in in
          let k = get_or net.back.items j 0 in
          let k_in : k < length bounds = omega (arith, a.0, h.count) in
          let some : 0 < get_or amounts k 0 = res.only j 0 j_in in
          let there : Meets t (turned (arc_at (arcs_for p bounds) k)) = back k (omega (arith, arcs_long p bounds)) some in
          let e : arc_at net.arcs.items i ≡ turned (arc_at (arcs_for p bounds) k) = ap (λ q. arc_at net.arcs.items q) (sym sum) ∙ a.1 ∙ ap turned (first_there p bounds net k h k_in) in
          rw e there)
    ])

turned_met : (t : ℕ → ℕ) (a : Arc) → IsTight t a → Meets t (turned a)
turned_met t a e = omega arith

pub feasible_by : (p : Problem) (bounds : List Bound) (net : Network) (amounts : List ℕ) → IsNetworkOf p bounds net → IsResidual amounts net → HasTimes (length p.ops) (arcs_for p bounds) amounts →
    IsFeasible net.root net.arcs.items
feasible_by p bounds net amounts h res held = record {
  times = held.times;
  low = λ v b. held.low v (rw (← h.root) b);
  met = network_met p bounds net amounts held.times h res held.met (λ k b some. turned_met held.times (arc_at (arcs_for p bounds) k) (held.used k b some));
}

-- the least times over the network are the least over the bounds and those turned round that carry an amount
pub least_over : (p : Problem) (bounds : List Bound) (net : Network) (amounts times : List ℕ) → IsNetworkOf p bounds net → IsResidual amounts net → AreLeast net.root net.arcs.items times →
    AreLeastOver (length p.ops) (arcs_for p bounds) amounts times
least_over p bounds net amounts times h res least =
    let t : ℕ → ℕ = λ v. get_or times v 0 in
    let low : (v : ℕ) → v ≤ net.root → t v ≤ LIMIT = λ v b. (let a = above_root net.root net.arcs.items t h.is.framed least.met v b in let z = least.root in omega (arith, a.1)) in
    let held = held_by p bounds net amounts t h res low least.met in
    record {
      len = rw h.root at least.len;
      root = rw h.root at least.root;
      met = held.met;
      back = λ k b some. turned_met t (arc_at (arcs_for p bounds) k) (held.used k b some);
      least = λ u zero_root first back v b. least.least u (network_met p bounds net amounts u h res first back) (rw h.root zero_root) v (rw h.root b);
    }

same_from : (xs ys : List Arc) (s : ℕ × Bool) → arc_at xs s.0 ≡ arc_at ys s.0 → step_from xs s ≡ step_from ys s
same_from xs ys s e = rw e refl

same_to : (xs ys : List Arc) (s : ℕ × Bool) → arc_at xs s.0 ≡ arc_at ys s.0 → step_to xs s ≡ step_to ys s
same_to xs ys s e = rw e refl

same_after : (xs ys : List Arc) (a : ℕ) (steps : List (ℕ × Bool)) → ((k : ℕ) → k < length steps → arc_at xs (place_at steps k).0 ≡ arc_at ys (place_at steps k).0) →
    (k : ℕ) → k ≤ length steps → node_after xs a steps k ≡ node_after ys a steps k
same_after xs ys a steps same zero b = refl
same_after xs ys a steps same (suc k) b = same_to xs ys (place_at steps k) (same k (omega arith))

-- a path that times meet with equality, over the network's first inequalities
pub tight_found : (p : Problem) (bounds : List Bound) (net : Network) (amounts : List ℕ) (t : ℕ → ℕ) (a b : ℕ) (steps : List (ℕ × Bool)) → IsNetworkOf p bounds net →
    IsTightPath net.arcs.items net.bounds t a b steps → ((k : ℕ) → k < length steps → (place_at steps k).1 ≡ false → 0 < get_or amounts (place_at steps k).0 0) →
    AreTimes (length p.ops) (arcs_for p bounds) amounts t → IsFound (length p.ops) (arcs_for p bounds) amounts t a b steps
tight_found p bounds net amounts t a b steps h is carried held =
    let arcs = arcs_for p bounds in
    let within : (k : ℕ) → k < length steps → (place_at steps k).0 < length bounds = λ k k_in. (let w = is.within k k_in in omega (arith, h.count)) in
    let same : (k : ℕ) → k < length steps → arc_at net.arcs.items (place_at steps k).0 ≡ arc_at arcs (place_at steps k).0 = λ k k_in. first_there p bounds net (place_at steps k).0 h (within k k_in) in
    let after = same_after net.arcs.items arcs a steps same in
    record {
      walk = record {
        within = λ k k_in. (let w = within k k_in in omega (arith, arcs_long p bounds));
        joined = λ k k_in. sym (same_from net.arcs.items arcs (place_at steps k) (same k k_in)) ∙ is.joined k k_in ∙ after k (omega arith);
        once = is.once;
      };
      ends = sym (after (length steps) (omega arith)) ∙ is.ends;
      carried = carried;
      held = held;
      tight = λ k k_in. (let u : IsTight t (arc_at net.arcs.items (place_at steps k).0) = is.tight k k_in in rw (same k k_in) at u);
    }

-- a longest path over the network
pub found_by : (p : Problem) (bounds : List Bound) (net : Network) (amounts : List ℕ) (t : ℕ → ℕ) (a b : ℕ) (steps : List (ℕ × Bool)) → IsNetworkOf p bounds net → IsResidual amounts net →
    IsLongestPath net t a b steps → IsFound (length p.ops) (arcs_for p bounds) amounts t a b steps
found_by p bounds net amounts t a b steps h res is =
    tight_found p bounds net amounts t a b steps h is.path
    (λ k k_in against. All-contains (λ q. 0 < get_or amounts q 0) net.back.items (place_at steps k).0 res.only (is.carried k k_in against))
    (held_by p bounds net amounts t h res is.low is.met)

-- the nodes before and behind a step, by the bounds
pub before_there : (p : Problem) (bounds : List Bound) (s : ℕ × Bool) → s.0 < length bounds → step_from (arcs_for p bounds) s ≡ before (length p.ops) bounds s
before_there p bounds s b = rw (arc_there p bounds s.0 b, from_there p (bound_at bounds s.0), to_there p (bound_at bounds s.0)) refl

pub behind_there : (p : Problem) (bounds : List Bound) (s : ℕ × Bool) → s.0 < length bounds → step_to (arcs_for p bounds) s ≡ behind (length p.ops) bounds s
behind_there p bounds s b = rw (arc_there p bounds s.0 b, from_there p (bound_at bounds s.0), to_there p (bound_at bounds s.0)) refl

-- times go up along a path by no less than its length
step_goes : (p : Problem) (bounds : List Bound) (t : ℕ → ℕ) (s : ℕ × Bool) → s.0 < length bounds → Meets t (arc_at (arcs_for p bounds) s.0) →
    (s.1 ≡ false → IsTight t (arc_at (arcs_for p bounds) s.0)) → t (before (length p.ops) bounds s) + step_up p bounds s ≤ t (behind (length p.ops) bounds s) + step_down p bounds s
step_goes p bounds t s b along against =
    let m : Meets t (arc_of p (bound_at bounds s.0)) = rw (arc_there p bounds s.0 b) at along in
    let k : s.1 ≡ false → IsTight t (arc_of p (bound_at bounds s.0)) = λ e. (let x = against e in rw (arc_there p bounds s.0 b) at x) in
    let f = from_there p (bound_at bounds s.0) in
    let g = to_there p (bound_at bounds s.0) in
    go t (arc_of p (bound_at bounds s.0)) s.1 (from_of (length p.ops) (bound_at bounds s.0)) (to_of (length p.ops) (bound_at bounds s.0)) f g m k
  where
    go : (t : ℕ → ℕ) (a : Arc) (c : Bool) (from to : ℕ) → a.from ≡ from → a.to ≡ to → Meets t a → (c ≡ false → IsTight t a) →
        t (cond c from to) + cond c a.up a.down ≤ t (cond c to from) + cond c a.down a.up
    go t a true from to f g m k = rw (← f, ← g) m
    go t a false from to f g m k = (let e = k refl in rw (← f, ← g) (omega arith))

-- .. and by its length where it is met with equality
step_is : (p : Problem) (bounds : List Bound) (t : ℕ → ℕ) (s : ℕ × Bool) → s.0 < length bounds → IsTight t (arc_at (arcs_for p bounds) s.0) →
    t (before (length p.ops) bounds s) + step_up p bounds s ≡ t (behind (length p.ops) bounds s) + step_down p bounds s
step_is p bounds t s b tight =
    let k : IsTight t (arc_of p (bound_at bounds s.0)) = rw (arc_there p bounds s.0 b) at tight in
    go t (arc_of p (bound_at bounds s.0)) s.1 (from_of (length p.ops) (bound_at bounds s.0)) (to_of (length p.ops) (bound_at bounds s.0)) (from_there p (bound_at bounds s.0)) (to_there p (bound_at bounds s.0)) k
  where
    go : (t : ℕ → ℕ) (a : Arc) (c : Bool) (from to : ℕ) → a.from ≡ from → a.to ≡ to → IsTight t a → t (cond c from to) + cond c a.up a.down ≡ t (cond c to from) + cond c a.down a.up
    go t a true from to f g k = rw (← f, ← g) k
    go t a false from to f g k = rw (← f, ← g) (omega arith)

-- steps that join
abbrev pub AreJoined : ℕ → List Bound → List (ℕ × Bool) → Type 0
AreJoined n bounds steps = (k : ℕ) → suc k < length steps → before n bounds (place_at steps (suc k)) ≡ behind n bounds (place_at steps k)

joined_next : (n : ℕ) (bounds : List Bound) (steps : List (ℕ × Bool)) → ((k : ℕ) → k + 1 < length steps → before n bounds (place_at steps (k + 1)) ≡ behind n bounds (place_at steps k)) → AreJoined n bounds steps
joined_next n bounds steps h k b =
    let e = h k (omega arith) in
    rw add-one at e

path_goes : (p : Problem) (bounds : List Bound) (t : ℕ → ℕ) (s : ℕ × Bool) (rest : List (ℕ × Bool)) → AreJoined (length p.ops) bounds (s ∷ rest) →
    ((k : ℕ) → k < length (s ∷ rest) → t (before (length p.ops) bounds (place_at (s ∷ rest) k)) + step_up p bounds (place_at (s ∷ rest) k) ≤ t (behind (length p.ops) bounds (place_at (s ∷ rest) k)) + step_down p bounds (place_at (s ∷ rest) k)) →
    t (before (length p.ops) bounds s) + sum_by (step_up p bounds) (s ∷ rest) ≤ t (behind (length p.ops) bounds (place_at (s ∷ rest) (length rest))) + sum_by (step_down p bounds) (s ∷ rest)
path_goes p bounds t s [] joined each =
    let e = each zero (omega arith) in
    rw (sum_by-cons (step_up p bounds) s [], sum_by-cons (step_down p bounds) s []) (omega arith)
path_goes p bounds t s (r ∷ rest) joined each =
    let e = each zero (omega arith) in
    let j : before (length p.ops) bounds r ≡ behind (length p.ops) bounds s = joined zero (omega arith) in
    let later = path_goes p bounds t r rest (λ k b. joined (suc k) (omega arith)) (λ k b. each (suc k) (omega arith)) in
    let same : t (before (length p.ops) bounds r) ≡ t (behind (length p.ops) bounds s) = ap t j in
    rw (sum_by-cons (step_up p bounds) s (r ∷ rest), sum_by-cons (step_down p bounds) s (r ∷ rest)) (omega arith)

path_is : (p : Problem) (bounds : List Bound) (t : ℕ → ℕ) (s : ℕ × Bool) (rest : List (ℕ × Bool)) → AreJoined (length p.ops) bounds (s ∷ rest) →
    ((k : ℕ) → k < length (s ∷ rest) → t (before (length p.ops) bounds (place_at (s ∷ rest) k)) + step_up p bounds (place_at (s ∷ rest) k) ≡ t (behind (length p.ops) bounds (place_at (s ∷ rest) k)) + step_down p bounds (place_at (s ∷ rest) k)) →
    t (before (length p.ops) bounds s) + sum_by (step_up p bounds) (s ∷ rest) ≡ t (behind (length p.ops) bounds (place_at (s ∷ rest) (length rest))) + sum_by (step_down p bounds) (s ∷ rest)
path_is p bounds t s [] joined each =
    let e = each zero (omega arith) in
    rw (sum_by-cons (step_up p bounds) s [], sum_by-cons (step_down p bounds) s []) (omega arith)
path_is p bounds t s (r ∷ rest) joined each =
    let e = each zero (omega arith) in
    let j : before (length p.ops) bounds r ≡ behind (length p.ops) bounds s = joined zero (omega arith) in
    let later = path_is p bounds t r rest (λ k b. joined (suc k) (omega arith)) (λ k b. each (suc k) (omega arith)) in
    let same : t (before (length p.ops) bounds r) ≡ t (behind (length p.ops) bounds s) = ap t j in
    rw (sum_by-cons (step_up p bounds) s (r ∷ rest), sum_by-cons (step_down p bounds) s (r ∷ rest)) (omega arith)

-- the node after the last step
last_node : (arcs : List Arc) (a : ℕ) (steps : List (ℕ × Bool)) (m : ℕ) → 0 < m → node_after arcs a steps m ≡ step_to arcs (place_at steps (m - 1))
last_node arcs a steps zero some = absurd (omega arith)
last_node arcs a steps (suc m) some = (let e : m ≡ suc m - 1 = omega arith in ap (λ q. step_to arcs (place_at steps q)) e)

not_empty : (arcs : List Arc) (a b : ℕ) (steps : List (ℕ × Bool)) → node_after arcs a steps (length steps) ≡ b → a ≢ b → 0 < length steps
not_empty arcs a b [] e ne = absurd (ne e)
not_empty arcs a b (s ∷ rest) e ne = omega arith

goes_all : (p : Problem) (bounds : List Bound) (t : ℕ → ℕ) (steps : List (ℕ × Bool)) → 0 < length steps → AreJoined (length p.ops) bounds steps →
    ((k : ℕ) → k < length steps → t (before (length p.ops) bounds (place_at steps k)) + step_up p bounds (place_at steps k) ≤ t (behind (length p.ops) bounds (place_at steps k)) + step_down p bounds (place_at steps k)) →
    t (before (length p.ops) bounds (place_at steps 0)) + sum_by (step_up p bounds) steps ≤ t (behind (length p.ops) bounds (place_at steps (length steps - 1))) + sum_by (step_down p bounds) steps
goes_all p bounds t [] some joined each = absurd (omega arith)
goes_all p bounds t (s ∷ rest) some joined each =
    let e : length (s ∷ rest) - 1 ≡ length rest = omega arith in
    rw e (path_goes p bounds t s rest joined each)

is_all : (p : Problem) (bounds : List Bound) (t : ℕ → ℕ) (steps : List (ℕ × Bool)) → 0 < length steps → AreJoined (length p.ops) bounds steps →
    ((k : ℕ) → k < length steps → t (before (length p.ops) bounds (place_at steps k)) + step_up p bounds (place_at steps k) ≡ t (behind (length p.ops) bounds (place_at steps k)) + step_down p bounds (place_at steps k)) →
    t (before (length p.ops) bounds (place_at steps 0)) + sum_by (step_up p bounds) steps ≡ t (behind (length p.ops) bounds (place_at steps (length steps - 1))) + sum_by (step_down p bounds) steps
is_all p bounds t [] some joined each = absurd (omega arith)
is_all p bounds t (s ∷ rest) some joined each =
    let e : length (s ∷ rest) - 1 ≡ length rest = omega arith in
    rw e (path_is p bounds t s rest joined each)

-- a found path is a residual path with its ends
pub residual_path : (p : Problem) (bounds : List Bound) (r : Residual) (t : ℕ → ℕ) (a b : ℕ) (path : Path) → r.bounds ≡ bounds → length r.left ≡ length p.ops + 1 →
    IsFound (length p.ops) (arcs_for p bounds) r.amounts t a b path.steps → a ≢ b → IsResidualPath r path × (source_of r path ≡ a) × (target_of r path ≡ b)
residual_path p bounds r t a b path same left_len is ne =
    let n = length p.ops in
    let arcs = arcs_for p bounds in
    let steps = path.steps in
    let some = not_empty arcs a b steps is.ends ne in
    let root : root_of r ≡ n = omega arith in
    let within : (k : ℕ) → k < length steps → (place_at steps k).0 < length bounds = λ k k_in. (let w = is.walk.within k k_in in omega (arith, arcs_long p bounds)) in
    let last : length steps - 1 < length steps = omega arith in
    let source : before n bounds (place_at steps 0) ≡ a = sym (before_there p bounds (place_at steps 0) (within 0 some)) ∙ is.walk.joined 0 some in
    let target : behind n bounds (place_at steps (length steps - 1)) ≡ b
    = sym (behind_there p bounds (place_at steps (length steps - 1)) (within (length steps - 1) last)) ∙ sym (last_node arcs a steps (length steps) some) ∙ is.ends in
    let joined : (k : ℕ) → k + 1 < length steps → before n bounds (place_at steps (k + 1)) ≡ behind n bounds (place_at steps k)
    = λ k b2.
    (let k_in : k < length steps = omega arith in
    let next : k + 1 < length steps = b2 in
    sym (before_there p bounds (place_at steps (k + 1)) (within (k + 1) next)) ∙ is.walk.joined (k + 1) next ∙ ap (λ q. node_after arcs a steps q) (add-one k)
    ∙ behind_there p bounds (place_at steps k) (within k k_in)) in
    let inside : All (λ s. s.0 < length bounds) steps = All-from_get_or (λ s. s.0 < length bounds) steps (0, false) within in (
      record {
        some = some;
        within = rw same inside;
        joined = rw (same, root) joined;
        once = is.walk.once;
        carried = All-from_get_or (λ s. s.1 ≡ false → 0 < get_or r.amounts s.0 0) steps (0, false) is.carried;
      },
      rw (same, root) source,
      rw (same, root) target,
    )

step_held : (p : Problem) (bounds : List Bound) (amounts : List ℕ) (t : ℕ → ℕ) (s : ℕ × Bool) → AreTimes (length p.ops) (arcs_for p bounds) amounts t → s.0 < length bounds → (s.1 ≡ false → 0 < get_or amounts s.0 0) →
    t (before (length p.ops) bounds s) + step_up p bounds s ≤ t (behind (length p.ops) bounds s) + step_down p bounds s
step_held p bounds amounts t s held b carried =
    let k_in : s.0 < length (arcs_for p bounds) = omega (arith, arcs_long p bounds) in
    step_goes p bounds t s b (held.met s.0 no_arc k_in) (λ e. held.used s.0 k_in (carried e))

-- .. and no residual path between these is longer
pub longest_found : (p : Problem) (bounds : List Bound) (r : Residual) (t : ℕ → ℕ) (a b : ℕ) (path : Path) → r.bounds ≡ bounds → length r.left ≡ length p.ops + 1 →
    IsFound (length p.ops) (arcs_for p bounds) r.amounts t a b path.steps → a ≢ b → IsLongest p r path
longest_found p bounds r t a b path same left_len is ne other is_path same_source same_target =
    let n = length p.ops in
    let root : root_of r ≡ n = omega arith in
    let own = residual_path p bounds r t a b path same left_len is ne in
    let mine : IsResidualPath r path = own.0 in
    let own_joined : AreJoined n bounds path.steps = joined_next n bounds path.steps (rw (same, root) at mine.joined) in
    let other_joined : AreJoined n bounds other.steps = joined_next n bounds other.steps (rw (same, root) at is_path.joined) in
    let own_within : All (λ s. s.0 < length bounds) path.steps = rw same at mine.within in
    let other_within : All (λ s. s.0 < length bounds) other.steps = rw same at is_path.within in
    let goes = goes_all p bounds t other.steps is_path.some other_joined
    (λ k k_in. step_held p bounds r.amounts t (place_at other.steps k) is.held (other_within k (0, false) k_in) (is_path.carried k (0, false) k_in)) in
    let exact = is_all p bounds t path.steps mine.some own_joined (λ k k_in. step_is p bounds t (place_at path.steps k) (own_within k (0, false) k_in) (is.tight k k_in)) in
    let first : before n bounds (place_at other.steps 0) ≡ before n bounds (place_at path.steps 0) = rw (same, root) at same_source in
    let last : behind n bounds (place_at other.steps (length other.steps - 1)) ≡ behind n bounds (place_at path.steps (length path.steps - 1)) = rw (same, root) at same_target in
    let at_first : t (before n bounds (place_at other.steps 0)) ≡ t (before n bounds (place_at path.steps 0)) = ap t first in
    let at_last : t (behind n bounds (place_at other.steps (length other.steps - 1))) ≡ t (behind n bounds (place_at path.steps (length path.steps - 1))) = ap t last in
    rw same (omega arith)
