-- The network and the state of a flow on its way, from its first to its last.
use Rattle.std.proofs.Common.{◌≡◌, ℕ, ℤ, pos, ◌<◌, ◌==◌, zero, suc, cond, Bool, true, false, refl, sym, subst, List, [], ◌∷◌, ◌++◌, length, map, take, get_or, ◌∙◌, arith, ◌⊎◌, inl, inr}
use Rattle.std.specs.Prelude.{All, sum_by}
use Rattle.std.proofs.lemmas.List.{take_all}
use Rattle.std.proofs.lemmas.Bool.Decides.{nat_tests}
use Rattle.ix_sheet.specs.declared.problem.Bound.{Bound}
use Rattle.ix_sheet.specs.declared.problem.Problem.{Problem}
use Rattle.ix_sheet.specs.Schedules.{IsValidProblem}
use Rattle.ix_sheet.specs.Bounds.{IsBoundOf, arc_of, Meets}
use Rattle.ix_residual.specs.declared.residual.Path.{Path}
use Rattle.ix_residual.specs.declared.residual.Residual.{Residual}
use Rattle.ix_residual.specs.Residuals.{place_at, left_at, need_of, spare_of, augmented, CanAugment}
use Rattle.ix_residual.specs.Balances.{fresh}
use Rattle.ix_solve.specs.declared.network.Network.{Network}
use Rattle.ix_solve.specs.Search.{IsFeasible, AreLeast}
use Rattle.ix_solve.specs.Networks.{IsNetwork, IsResidual, IsLongestPath}
use Rattle.ix_solve.specs.declared.meet.Met.{Met}
use Rattle.ix_solve.specs.Answers.{AreOptimal}
use Rattle.ix_solve.specs.State.{IsState, IsReplay, IsNetworkOf, IsOnWay, IsOpen, are_carried, IsMet}
use Rattle.ix_solve.proofs.Balanced.{sum_of_none, all_none}
use Rattle.ix_solve.proofs.Found.{found_by, tight_found, least_over}
use Rattle.ix_solve.proofs.Links.{arcs_for, arcs_long}
use Rattle.ix_solve.proofs.States.{IsWay, taken, state_after, replay_after, first_state, held_at_first}

pub first_network : (p : Problem) (bounds : List Bound) (net : Network) → IsNetwork net → net.root ≡ length p.ops → (net.arcs.items ≡ map (arc_of p) bounds) × (net.bounds ≡ length bounds) →
    IsNetworkOf p bounds net
first_network p bounds net is root arcs = record {
  is = is;
  root = root;
  count = arcs.1;
  kept = rw arcs.0 (take_all net.bounds (map (arc_of p) bounds) (omega (arith, arcs.1, arcs_long p bounds)));
}

pub network_after : (p : Problem) (bounds : List Bound) (old new : Network) → IsNetworkOf p bounds old → IsNetwork new → (new.root ≡ old.root) × (new.bounds ≡ old.bounds) →
    take old.bounds new.arcs.items ≡ take old.bounds old.arcs.items → IsNetworkOf p bounds new
network_after p bounds old new h is same kept = record {
  is = is;
  root = same.0 ∙ h.root;
  count = same.1 ∙ h.count;
  kept = rw same.1 (kept ∙ h.kept);
}

-- before anything has moved
pub state_at_first : (p : Problem) (bounds : List Bound) (net : Network) (r : Residual) → IsValidProblem p → IsNetworkOf p bounds net → net.arcs.items ≡ map (arc_of p) bounds → IsFeasible net.root net.arcs.items →
    r ≡ fresh p bounds → IsState p bounds r
state_at_first p bounds net r valid h arcs feasible e =
    let met : All (Meets feasible.times) (arcs_for p bounds) = rw arcs at feasible.met in
    rw e (first_state p bounds valid (held_at_first (length p.ops) (arcs_for p bounds) (length bounds) feasible.times (λ v b. feasible.low v (rw h.root b)) met))

-- a longest path between two ends is a way
pub way_found : (p : Problem) (bounds : List Bound) (net : Network) (r : Residual) (left : List ℤ) (t : ℕ → ℕ) (a b : ℕ) (path : Path) → IsState p bounds r → IsNetworkOf p bounds net → IsResidual r.amounts net →
    left ≡ r.left → (a < length left) × (0 < spare_of (get_or left a (pos 0))) → (b < length left) × (0 < need_of (get_or left b (pos 0))) → IsLongestPath net t a b path.steps → IsWay p bounds r t a b path
way_found p bounds net r left t a b path h n res el source target is =
    let s : (a < length r.left) × (0 < spare_of (get_or r.left a (pos 0))) = rw el at source in
    let u : (b < length r.left) × (0 < need_of (get_or r.left b (pos 0))) = rw el at target in
    record {
      found = found_by p bounds net r.amounts t a b path.steps n res is;
      source_in = omega (arith, s.0, h.left_len);
      target_in = omega (arith, u.0, h.left_len);
      spare = s.1;
      need = u.1;
    }

-- where nothing is needed, or nothing is to spare, nothing is left
pub none_left : (p : Problem) (bounds : List Bound) (r : Residual) (left : List ℤ) → IsState p bounds r → left ≡ r.left →
    All (λ x. need_of x ≡ 0) left ⊎ All (λ x. spare_of x ≡ 0) left → All (λ x. x ≡ pos 0) r.left
none_left p bounds r left h el none =
    let even = h.even in
    elim none [
      | inl needs ↦ (let n = sum_of_none need_of r.left (rw el at needs) in all_none r.left n (omega arith))
      | inr spares ↦ (let s = sum_of_none spare_of r.left (rw el at spares) in all_none r.left (omega arith) s)
    ]

-- the least times over the last network go with the amounts
pub optimal : (p : Problem) (bounds : List Bound) (net : Network) (met : Met) (times : List ℕ) → IsMet p bounds net met → AreLeast net.root net.arcs.items times → AreOptimal p bounds times met.residual.amounts
optimal p bounds net met times h least =
    let r = met.residual in
    record {
      amounts_len = h.state.amounts_len;
      balanced = λ v b.
          (let z : left_at r v ≡ pos 0 = h.none_left v (pos 0) (omega (arith, h.state.left_len)) in
          let e = rw z at (h.state.balanced v b) in
          omega arith);
      least = least_over p bounds net r.amounts times h.network h.residual least;
    }

-- after an amount has moved along a longest path
pub met_along : (p : Problem) (bounds : List Bound) (net : Network) (t : ℕ → ℕ) (r new : Residual) (paths more : List Path) (a b : ℕ) (path : Path) → IsValidProblem p → All (IsBoundOf p) bounds →
    IsState p bounds r → IsReplay p bounds r paths → IsNetworkOf p bounds net → IsWay p bounds r t a b path → new ≡ augmented r path → more ≡ paths ++ path ∷ [] →
    IsOnWay p bounds net t new more × (sum_by need_of new.left < sum_by need_of r.left)
met_along p bounds net t r new paths more a b path valid of state replay network way en em =
    let k = taken p bounds r t a b path valid of state way in
    let after = state_after p bounds r new t a b path state way k en in (
      record {
        state = after.0;
        replay = replay_after p bounds r new paths more a b path replay k en after.1 em;
        network = network;
        times = after.2;
      },
      after.1,
    )

-- .. as the times and the bounds are read
pub on_own_bounds : (p : Problem) (bounds : List Bound) (net : Network) (times given : List ℕ) (r : Residual) (paths : List Path) → given ≡ times → IsOnWay p bounds net (λ v. get_or times v 0) r paths →
    IsOnWay p r.bounds net (λ v. get_or given v 0) r paths
on_own_bounds p bounds net times given r paths e h = rw e (subst (λ b. IsOnWay p b net (λ v. get_or times v 0) r paths) (sym h.state.bounds_same) h)

none_or_some : (x : ℕ) → (((x == 0) ≡ true) × (x ≡ 0)) ⊎ (((x == 0) ≡ false) × (0 < x))
none_or_some x = grind (arith, nat_tests)

both : (b : Bool) → b ≡ true → b ≡ false → ⊥
both b p q = cc

one_carried : (along : Bool) (x : ℕ) (more : Bool) → cond along more (cond (x == 0) false more) ≡ true → ((along ≡ false → 0 < x) × (more ≡ true))
one_carried true x more e = ((λ q. absurd (both true refl q)), e)
one_carried false x more e = elim (none_or_some x) [
  | inl none ↦ absurd (both false (rw none.0 at e) refl)
  | inr some ↦ ((λ q. some.1), (rw some.0 at e))
]

all_carried : (amounts : List ℕ) (steps : List (ℕ × Bool)) → are_carried amounts steps ≡ true → (k : ℕ) → k < length steps → (place_at steps k).1 ≡ false → 0 < get_or amounts (place_at steps k).0 0
all_carried amounts [] e k b against = absurd (omega arith)
all_carried amounts (s ∷ rest) e zero b against = (one_carried s.1 (get_or amounts s.0 0) (are_carried amounts rest) e).0 against
all_carried amounts (s ∷ rest) e (suc k) b against = all_carried amounts rest (one_carried s.1 (get_or amounts s.0 0) (are_carried amounts rest) e).1 k (omega arith) against

-- an open path is a way
open_way : (p : Problem) (bounds : List Bound) (net : Network) (t : ℕ → ℕ) (r : Residual) (paths : List Path) (a b : ℕ) (path : Path) → IsOnWay p bounds net t r paths → IsOpen net t r a b path →
    IsWay p bounds r t a b path
open_way p bounds net t r paths a b path h is = record {
  found = tight_found p bounds net r.amounts t a b path.steps h.network is.tight (all_carried r.amounts path.steps is.carried) h.times;
  source_in = omega (arith, is.source_in, h.network.root);
  target_in = omega (arith, is.target_in, h.network.root);
  spare = is.spare;
  need = is.need;
}

pub open_can : (p : Problem) (bounds : List Bound) (net : Network) (t : ℕ → ℕ) (r : Residual) (paths : List Path) (a b : ℕ) (path : Path) → IsValidProblem p → All (IsBoundOf p) bounds →
    IsOnWay p bounds net t r paths → IsOpen net t r a b path → CanAugment r path
open_can p bounds net t r paths a b path valid of h is = (taken p bounds r t a b path valid of h.state (open_way p bounds net t r paths a b path h is)).can

-- after an amount has moved along it
pub open_after : (p : Problem) (bounds : List Bound) (net : Network) (t : ℕ → ℕ) (r new : Residual) (paths more : List Path) (a b : ℕ) (path : Path) → IsValidProblem p → All (IsBoundOf p) bounds →
    IsOnWay p bounds net t r paths → IsOpen net t r a b path → new ≡ augmented r path → more ≡ paths ++ path ∷ [] →
    IsOnWay p bounds net t new more × (sum_by need_of new.left < sum_by need_of r.left)
open_after p bounds net t r new paths more a b path valid of h is en em =
    met_along p bounds net t r new paths more a b path valid of h.state h.replay h.network (open_way p bounds net t r paths a b path h is) en em
