-- States before and after an amount is moved along a longest path.
use Rattle.std.proofs.Common.{◌≡◌, ℕ, ℤ, pos, zero, suc, ◌≢◌, ◌+◌, ◌≤◌, ◌<◌, ◌==◌, cond, Bool, true, false, min, List, [], ◌∷◌, ◌++◌, length, get_or, replicate, refl, sym, ◌∙◌, ap, arith, ◌⊎◌, inl, inr}
use Rattle.std.specs.Prelude.{All, sum_by}
use Rattle.std.proofs.lemmas.List.{get_or-replicate, length-replicate, get_or_past, length_push, length-set}
use Rattle.std.proofs.lemmas.List.Sums.{get_or-le-sum_by}
use Rattle.ix_sheet.specs.declared.problem.Arc.{Arc}
use Rattle.ix_sheet.specs.declared.problem.Bound.{Bound}
use Rattle.ix_sheet.specs.declared.problem.Problem.{Problem}
use Rattle.ix_sheet.specs.Schedules.{IsValidProblem}
use Rattle.ix_sheet.specs.Bounds.{IsBoundOf, IsTight, Meets, weight_in, weight_out}
use Rattle.ix_sheet.proofs.BoundLemmas.{ends_inside}
use Rattle.ix_residual.specs.declared.residual.Path.{Path}
use Rattle.ix_residual.specs.declared.residual.Residual.{Residual}
use Rattle.ix_residual.specs.Residuals.{place_at, root_of, left_at, source_of, target_of, need_of, spare_of, room, greatest, moved, settled, augmented, CanAugment, replayed, AreAugmentations}
use Rattle.ix_residual.specs.Balances.{fresh, IsLongest, AreLongest}
use Rattle.ix_residual.proofs.Ends.{room_each, room_most, room_some}
use Rattle.ix_solve.specs.Search.{arc_at}
use Rattle.ix_solve.specs.Flows.{flow_at, flow_in, flow_out, GainsAlong}
use Rattle.ix_solve.specs.State.{HasTimes, AreTimes, IsState, IsReplay}
use Rattle.ix_solve.proofs.Balanced.{settled_at, settled_sums, one_way, below_zero, above_zero, balance_there, balances_long, even_balances, parts_of}
use Rattle.ix_solve.proofs.Found.{IsFound, residual_path, longest_found}
use Rattle.ix_solve.proofs.Links.{arcs_for, arcs_long, from_there, to_there}
use Rattle.ix_solve.proofs.Moves.{pushed_all}

-- a path that is found between a node that has to spare and one that needs
pub record IsWay (p : Problem) (bounds : List Bound) (r : Residual) (t : ℕ → ℕ) (a b : ℕ) (path : Path) : Type 0 where
  pub found : IsFound (length p.ops) (arcs_for p bounds) r.amounts t a b path.steps
  pub source_in : a ≤ length p.ops
  pub target_in : b ≤ length p.ops
  pub spare : 0 < spare_of (left_at r a)
  pub need : 0 < need_of (left_at r b)

-- .. can be gone along
pub record IsTaken (p : Problem) (r : Residual) (a b : ℕ) (path : Path) : Type 0 where
  pub can : CanAugment r path
  pub longest : IsLongest p r path
  pub source : source_of r path ≡ a
  pub target : target_of r path ≡ b
  pub apart : a ≢ b
  pub some : 0 < greatest r path
  pub need_low : greatest r path ≤ need_of (left_at r b)
  pub spare_low : greatest r path ≤ spare_of (left_at r a)
  pub falls : (k : ℕ) → k < length path.steps → (place_at path.steps k).1 ≡ false → greatest r path ≤ get_or r.amounts (place_at path.steps k).0 0

ends_apart : (left : List ℤ) (a b : ℕ) → 0 < spare_of (get_or left a (pos 0)) → 0 < need_of (get_or left b (pos 0)) → a ≢ b
ends_apart left a b s n e =
    let at : need_of (get_or left b (pos 0)) ≡ need_of (get_or left a (pos 0)) = ap (λ v. need_of (get_or left v (pos 0))) (sym e) in
    one_way (get_or left a (pos 0)) s (omega arith)

pub taken : (p : Problem) (bounds : List Bound) (r : Residual) (t : ℕ → ℕ) (a b : ℕ) (path : Path) → IsValidProblem p → All (IsBoundOf p) bounds → IsState p bounds r → IsWay p bounds r t a b path → IsTaken p r a b path
taken p bounds r t a b path valid of h w =
    let n = length p.ops in
    let ne : a ≢ b = ends_apart r.left a b w.spare w.need in
    let is = residual_path p bounds r t a b path h.bounds_same h.left_len w.found ne in
    let root : root_of r ≡ n = omega (arith, h.left_len) in
    let most = min (need_of (left_at r b)) (spare_of (left_at r a)) in
    let d_is : greatest r path ≡ room r.amounts most path.steps = rw (is.1, is.2) refl in
    let le = room_most r.amounts most path.steps in
    let need = w.need in
    let spare = w.spare in
    let some = room_some r.amounts most path.steps (omega arith) is.0.carried in
    let part : need_of (left_at r b) ≤ sum_by need_of r.left = get_or-le-sum_by need_of r.left b (pos 0) (omega (arith, h.left_len, w.target_in)) in
    let within : All (λ s. s.0 < length bounds) path.steps = rw h.bounds_same at is.0.within in
    record {
      can = record {
        amounts_len = rw h.bounds_same h.amounts_len;
        ends = rw (h.bounds_same, root) (λ k d k_in.
            (let inside = ends_inside p valid (get_or bounds k d) (of k d k_in) in
            let f = from_there p (get_or bounds k d) in
            let g = to_there p (get_or bounds k d) in
            (omega (arith, h.left_len, inside.0), omega (arith, h.left_len, inside.1))));
        is = is.0;
        spare = rw is.1 (below_zero (left_at r a) w.spare);
        need = rw is.2 (above_zero (left_at r b) w.need);
        fits = λ k d k_in along. (let r2 = h.room (get_or path.steps k d).0 (within k d k_in) in omega arith);
      };
      longest = longest_found p bounds r t a b path h.bounds_same h.left_len w.found ne;
      source = is.1;
      target = is.2;
      apart = ne;
      some = rw d_is some;
      need_low = omega arith;
      spare_low = omega arith;
      falls = λ k k_in against. (let each = room_each r.amounts most path.steps k (0, false) k_in against in rw d_is each);
    }

-- a bound that has gained was gone along, and is met with equality
used_after : (n : ℕ) (arcs : List Arc) (old new : List ℕ) (t : ℕ → ℕ) (a b d : ℕ) (steps : List (ℕ × Bool)) → IsFound n arcs old t a b steps → GainsAlong old new d steps (length steps) →
    (k : ℕ) → k < length arcs → 0 < get_or new k 0 → IsTight t (arc_at arcs k)
used_after n arcs old new t a b d steps is gains k k_in some =
    elim (gains k) [
      | inl less ↦ is.held.used k k_in (omega arith)
      | inr more ↦ (let j = more.1.0 in let u : IsTight t (arc_at arcs (place_at steps j).0) = is.tight j more.1.1 in rw more.1.2 at u)
    ]

-- the state after the greatest amount is moved
pub state_after : (p : Problem) (bounds : List Bound) (r new : Residual) (t : ℕ → ℕ) (a b : ℕ) (path : Path) → IsState p bounds r → IsWay p bounds r t a b path → IsTaken p r a b path → new ≡ augmented r path →
    IsState p bounds new × (sum_by need_of new.left < sum_by need_of r.left) × AreTimes (length p.ops) (arcs_for p bounds) new.amounts t
state_after p bounds r new t a b path h w k en =
    let arcs = arcs_for p bounds in
    let d = greatest r path in
    let same : length r.amounts ≡ length arcs = omega (arith, h.amounts_len, arcs_long p bounds) in
    let pushed = pushed_all arcs r.amounts a d path.steps w.found.walk same k.falls in
    let amounts : new.amounts ≡ moved r.amounts d path.steps = ap (λ (x : Residual). x.amounts) en in
    let left : new.left ≡ settled r.left a b d = ap (λ (x : Residual). x.left) en ∙ rw (k.source, k.target) refl in
    let a_in : a < length r.left = omega (arith, h.left_len, w.source_in) in
    let b_in : b < length r.left = omega (arith, h.left_len, w.target_in) in
    let sums = settled_sums r.left a b d a_in b_in k.apart k.spare_low k.need_low in
    let some = k.some in
    let used = used_after (length p.ops) arcs r.amounts (moved r.amounts d path.steps) t a b d path.steps w.found pushed.gains in (
      record {
        bounds_same = ap (λ (x : Residual). x.bounds) en ∙ h.bounds_same;
        amounts_len = rw amounts (omega (arith, pushed.same_len, arcs_long p bounds));
        left_len = rw left (settled_len r.left a b d ∙ h.left_len);
        held = rw amounts (record { times = t; low = w.found.held.low; met = w.found.held.met; used = used });
        even = rw left (omega (arith, h.even));
        room = λ i i_in. rw (amounts, left) (
            let room_k = h.room i i_in in
            let low = k.need_low in
            elim (pushed.gains i) [
              | inl less ↦ omega arith
              | inr more ↦ (let e = more.0 in omega arith)
            ]);
        balanced = λ v v_in. rw (amounts, left) (
            let m = pushed.moved v in
            let m2 : flow_in arcs (moved r.amounts d path.steps) v + flow_out arcs r.amounts v + cond (a == v) d 0 ≡ flow_out arcs (moved r.amounts d path.steps) v + flow_in arcs r.amounts v + cond (b == v) d 0 = rw w.found.ends at m in
            let s = settled_at r.left a b d v a_in b_in k.apart k.spare_low k.need_low in
            let old = h.balanced v v_in in
            omega arith);
      },
      rw left (omega arith),
      rw amounts (record { low = w.found.held.low; met = w.found.held.met; used = used }),
    )
  where
    settled_len : (left : List ℤ) (a b d : ℕ) → length (settled left a b d) ≡ length left
    settled_len left a b d = simp length-set

-- one more path
replayed-push : (r : Residual) (xs : List Path) (x : Path) → replayed r (xs ++ x ∷ []) ≡ augmented (replayed r xs) x
replayed-push r [] x = refl
replayed-push r (y ∷ ys) x = replayed-push (augmented r y) ys x

turns-push : (r : Residual) (xs : List Path) (x : Path) → AreAugmentations r xs → CanAugment (replayed r xs) x → AreAugmentations r (xs ++ x ∷ [])
turns-push r [] x h c = (c, tt)
turns-push r (y ∷ ys) x h c = (h.0, turns-push (augmented r y) ys x h.1 c)

longest-push : (p : Problem) (r : Residual) (xs : List Path) (x : Path) → AreLongest p r xs → IsLongest p (replayed r xs) x → AreLongest p r (xs ++ x ∷ [])
longest-push p r [] x h c = (c, tt)
longest-push p r (y ∷ ys) x h c = (h.0, longest-push p (augmented r y) ys x h.1 c)

pub replay_after : (p : Problem) (bounds : List Bound) (r new : Residual) (paths more : List Path) (a b : ℕ) (path : Path) → IsReplay p bounds r paths → IsTaken p r a b path → new ≡ augmented r path →
    sum_by need_of new.left < sum_by need_of r.left → more ≡ paths ++ path ∷ [] → IsReplay p bounds new more
replay_after p bounds r new paths more a b path h t en less em =
    let first = fresh p bounds in
    rw em (record {
      same = replayed-push first paths path ∙ ap (λ q. augmented q path) h.same ∙ sym en;
      turns = turns-push first paths path h.turns (rw h.same t.can);
      longest = longest-push p first paths path h.longest (rw h.same t.longest);
      few = rw (length_push paths path) (omega (arith, h.few));
    })

nothing : (c : Bool) (x : ℕ) → x ≡ 0 → cond c x 0 ≡ 0
nothing true x e = e
nothing false x e = refl

flow_none : (node : Arc → ℕ) (arcs : List Arc) (amounts : List ℕ) (v : ℕ) → ((k : ℕ) → get_or amounts k 0 ≡ 0) → flow_at node arcs amounts v ≡ 0
flow_none node [] xs v h = refl
flow_none node (b ∷ bs) [] v h = refl
flow_none node (b ∷ bs) (x ∷ xs) v h =
    let rest = flow_none node bs xs v (λ k. h (suc k)) in
    let z = nothing (node b == v) x (h zero) in
    omega arith

below_or_not : (k n : ℕ) → (k < n) ⊎ (n ≤ k)
below_or_not k n = grind arith

zeros : (n k : ℕ) → ◌≡◌ {A = ℕ} (get_or (replicate n 0) k 0) 0
zeros n k =
    elim (below_or_not k n) [
      | inl low ↦ get_or-replicate {A = ℕ} n k 0 0 low
      | inr high ↦ get_or_past {X = ℕ} (replicate n 0) k 0 (omega (arith, length-replicate {A = ℕ} n 0))
    ]

-- before anything has moved
pub first_state : (p : Problem) (bounds : List Bound) → IsValidProblem p → HasTimes (length p.ops) (arcs_for p bounds) (replicate (length bounds) 0) → IsState p bounds (fresh p bounds)
first_state p bounds valid held =
    let even = even_balances p valid in
    let none = zeros (length bounds) in
    record {
      bounds_same = refl;
      amounts_len = length-replicate {A = ℕ} (length bounds) 0;
      left_len = balances_long p;
      held = held;
      even = even.0;
      room = λ k b. (let z = none k in omega (arith, even.1));
      balanced = λ v b. rw (balance_there p v b) (
          let i = flow_none (λ a. a.to) (arcs_for p bounds) (replicate (length bounds) 0) v none in
          let o = flow_none (λ a. a.from) (arcs_for p bounds) (replicate (length bounds) 0) v none in
          omega (arith, (parts_of (1 + weight_in p v) (weight_out p v)).1));
    }

pub first_replay : (p : Problem) (bounds : List Bound) → IsReplay p bounds (fresh p bounds) []
first_replay p bounds = record { same = refl; turns = tt; longest = tt; few = omega arith }

-- times that meet the bounds are times where nothing is carried
pub held_at_first : (n : ℕ) (arcs : List Arc) (m : ℕ) (t : ℕ → ℕ) → ((v : ℕ) → v ≤ n → t v ≤ 255) → All (Meets t) arcs → HasTimes n arcs (replicate m 0)
held_at_first n arcs m t low met = record { times = t; low = low; met = met; used = λ k b some. (let z = zeros m k in absurd (omega arith)) }
