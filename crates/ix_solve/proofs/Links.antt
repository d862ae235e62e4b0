-- From inequalities, places and amounts to bounds, contradictions and dual flows.
use Rattle.std.proofs.Common.{◌≡◌, ℕ, zero, suc, ◌+◌, ◌-◌, ◌≤◌, ◌<◌, ◌==◌, cond, Bool, true, false, List, [], ◌∷◌, ◌++◌, length, map, get_or, take, refl, sym, ◌∙◌, ap, arith, ◌⊎◌, inl, inr, length-append}
use Rattle.std.specs.Prelude.{All, sum_by}
use Rattle.std.specs.List.{range_with_len}
use Rattle.std.proofs.lemmas.List.{get_or-map, length-map, get_or-append_right, get_or_append_left, take_more, length-take-le, append-nil}
use Rattle.std.proofs.lemmas.List.Elements.{All-cons, All-nil, All-head, All-tail, All-weaker, All-map}
use Rattle.std.proofs.lemmas.List.FromFn.{get_or-map-range_with_len, length-map-range_with_len}
use Rattle.std.proofs.lemmas.List.Sums.{sum_by-cons}
use Rattle.std.proofs.lemmas.Bool.Decides.{nat_tests}
use Rattle.ix_sheet.specs.declared.problem.Arc.{Arc}
use Rattle.ix_sheet.specs.declared.problem.Bound.{Bound}
use Rattle.ix_sheet.specs.declared.problem.Bound.TheVariants.{Early, Late, Dep, Chain}
use Rattle.ix_sheet.specs.declared.problem.Problem.{Problem}
use Rattle.ix_sheet.specs.Schedules.{IsValidProblem, node_at}
use Rattle.ix_sheet.specs.Bounds.{arc_of, IsBoundOf, Flow, amount_at, IsDualFlow, IsContradiction, Leads as BoundsLead}
use Rattle.ix_sheet.proofs.BoundLemmas.{ends_inside}
use Rattle.ix_problem.specs.Constraints.{AreConstraints, bounds_with}
use Rattle.ix_residual.specs.Residuals.{bound_at, from_of, to_of}
use Rattle.ix_solve.specs.Answers.{used, AreOptimal, FitsByte}
use Rattle.ix_solve.specs.Search.{no_arc, arc_at, IsFramed, IsInside, IsClosed, Leads}
use Rattle.ix_solve.specs.Flows.{flow_at}

abbrev pub arcs_for : Problem → List Bound → List Arc
arcs_for p bounds = map (arc_of p) bounds

-- the inequality at a place is that of the bound there
pub arc_there : (p : Problem) (bounds : List Bound) (k : ℕ) → k < length bounds → arc_at (arcs_for p bounds) k ≡ arc_of p (bound_at bounds k)
arc_there p bounds k b = get_or-map (arc_of p) bounds k (Early 0) no_arc b

pub arcs_long : (p : Problem) (bounds : List Bound) → length (arcs_for p bounds) ≡ length bounds
arcs_long p bounds = length-map bounds (arc_of p)

early_there : (p : Problem) (paths : List (List ℕ)) (k : ℕ) → k < length p.ops → bound_at (bounds_with p paths) k ≡ Early k
early_there p paths k b =
    let n = length p.ops in
    let first = map Early (range_with_len 0 n) in
    let rest = map Late (range_with_len 0 n) ++ (map (λ (e : ℕ × ℕ). Dep e.0 e.1) p.edges ++ map Chain paths) in
    let long : length first ≡ n = length-map-range_with_len Early 0 n in
    get_or_append_left first rest (Early 0) k (omega arith) ∙ get_or-map-range_with_len Early 0 n k k (Early 0) b (omega arith)

late_there : (p : Problem) (paths : List (List ℕ)) (k : ℕ) → k < length p.ops → bound_at (bounds_with p paths) (length p.ops + k) ≡ Late k
late_there p paths k b =
    let n = length p.ops in
    let first = map Early (range_with_len 0 n) in
    let second = map Late (range_with_len 0 n) in
    let tail = map (λ (e : ℕ × ℕ). Dep e.0 e.1) p.edges ++ map Chain paths in
    let long : length first ≡ n = length-map-range_with_len Early 0 n in
    let long2 : length second ≡ n = length-map-range_with_len Late 0 n in
    let there : n + k - n ≡ k = omega arith in
    get_or-append_right first (second ++ tail) n (n + k) (Early 0) long (omega arith)
    ∙ (ap (λ i. get_or (second ++ tail) i (Early 0)) there
    ∙ (get_or_append_left second tail (Early 0) k (omega arith) ∙ get_or-map-range_with_len Late 0 n k k (Early 0) b (omega arith)))

long_enough : (p : Problem) (paths : List (List ℕ)) → length p.ops + length p.ops ≤ length (bounds_with p paths)
long_enough p paths =
    let n = length p.ops in
    let first = map Early (range_with_len 0 n) in
    let second = map Late (range_with_len 0 n) in
    let tail = map (λ (e : ℕ × ℕ). Dep e.0 e.1) p.edges ++ map Chain paths in
    let long : length first ≡ n = length-map-range_with_len Early 0 n in
    let long2 : length second ≡ n = length-map-range_with_len Late 0 n in
    omega (arith, length-append first (second ++ tail), length-append second tail)

-- the nodes that a bound's inequality is about are those that the bound goes from and to
pub from_there : (p : Problem) (bound : Bound) → (arc_of p bound).from ≡ from_of (length p.ops) bound
from_there p (Early k) = refl
from_there p (Late k) = refl
from_there p (Dep i j) = refl
from_there p (Chain path) = refl

pub to_there : (p : Problem) (bound : Bound) → (arc_of p bound).to ≡ to_of (length p.ops) bound
to_there p (Early k) = refl
to_there p (Late k) = refl
to_there p (Dep i j) = refl
to_there p (Chain path) = refl

-- the windows of a problem whose bounds' inequalities have bytes
small_windows : (p : Problem) (bounds : List Bound) → AreConstraints p bounds → ((k : ℕ) → k < length bounds → FitsByte (bound_at bounds k) (arc_of p (bound_at bounds k))) →
    (k : ℕ) → k < length p.ops → ((node_at p k).early ≤ 255) × ((node_at p k).late ≤ 255)
small_windows p bounds are bytes k b =
    let n = length p.ops in
    let long : n + n ≤ length bounds = rw are.are (long_enough p are.paths) in
    let early : bound_at bounds k ≡ Early k = rw are.are (early_there p are.paths k b) in
    let late : bound_at bounds (n + k) ≡ Late k = rw are.are (late_there p are.paths k b) in
    let first = bytes k (omega arith) in
    let second = bytes (n + k) (omega arith) in
    (rw early at first, rw late at second)

-- the constraints of a problem begin with its windows, whose times are at most 255
pub framed : (p : Problem) (bounds : List Bound) → IsValidProblem p → AreConstraints p bounds → ((k : ℕ) → k < length bounds → FitsByte (bound_at bounds k) (arc_of p (bound_at bounds k))) →
    IsFramed (length p.ops) (arcs_for p bounds)
framed p bounds valid are bytes =
    let small = small_windows p bounds are bytes in
    let n = length p.ops in
    let long : n + n ≤ length bounds = rw are.are (long_enough p are.paths) in
    let early : (v : ℕ) → v < n → arc_at (arcs_for p bounds) v ≡ arc_of p (Early v)
    = λ v b.
    (let is : bound_at bounds v ≡ Early v = rw are.are (early_there p are.paths v b) in
    arc_there p bounds v (omega arith) ∙ ap (arc_of p) is) in
    let late : (v : ℕ) → v < n → arc_at (arcs_for p bounds) (n + v) ≡ arc_of p (Late v)
    = λ v b.
    (let is : bound_at bounds (n + v) ≡ Late v = rw are.are (late_there p are.paths v b) in
    arc_there p bounds (n + v) (omega arith) ∙ ap (arc_of p) is) in
    record {
      enough = omega (arith, arcs_long p bounds);
      early = λ v b. rw (early v b) (refl, refl, (small v b).0, refl);
      late = λ v b. rw (late v b) (refl, refl, refl, (small v b).1);
      inside = All-map (IsInside n) (arc_of p) bounds (λ k d b. ends_inside p valid (get_or bounds k d) (are.of k d b));
    }

-- a closed list of places is a contradiction
leads_there : (p : Problem) (bounds : List Bound) (a b : ℕ) (ks : List ℕ) → All (λ k. k < length (arcs_for p bounds)) ks → Leads (arcs_for p bounds) a ks b →
    BoundsLead p a (map (bound_at bounds) ks) b
leads_there p bounds a b [] within leads = leads
leads_there p bounds a b (k ∷ ks) within leads =
    let here : k < length (arcs_for p bounds) = All-head (λ x. x < length (arcs_for p bounds)) k ks within in
    let same = arc_there p bounds k (omega (arith, arcs_long p bounds)) in
    let next = rw same at leads in
    (next.0, leads_there p bounds (arc_of p (bound_at bounds k)).to b ks (All-tail (λ x. x < length (arcs_for p bounds)) k ks within) next.1)

sums_there : (f : Arc → ℕ) (p : Problem) (bounds : List Bound) (ks : List ℕ) → All (λ k. k < length (arcs_for p bounds)) ks →
    sum_by (λ x. f (arc_of p x)) (map (bound_at bounds) ks) ≡ sum_by (λ k. f (arc_at (arcs_for p bounds) k)) ks
sums_there f p bounds [] within = refl
sums_there f p bounds (k ∷ ks) within =
    let here : k < length (arcs_for p bounds) = All-head (λ x. x < length (arcs_for p bounds)) k ks within in
    let same = arc_there p bounds k (omega (arith, arcs_long p bounds)) in
    let rest = sums_there f p bounds ks (All-tail (λ x. x < length (arcs_for p bounds)) k ks within) in
    rw (sum_by-cons (λ x. f (arc_of p x)) (bound_at bounds k) (map (bound_at bounds) ks), sum_by-cons (λ i. f (arc_at (arcs_for p bounds) i)) k ks, same, rest) refl

pub contradiction : (p : Problem) (bounds : List Bound) (ks : List ℕ) → All (IsBoundOf p) bounds → IsClosed (arcs_for p bounds) ks → IsContradiction p (map (bound_at bounds) ks)
contradiction p bounds ks of closed = record {
  bounds = All-map (IsBoundOf p) (bound_at bounds) ks
      (λ i d b. let k_in = closed.within i d b in of (get_or ks i d) (Early 0) (omega (arith, arcs_long p bounds)));
  closed = (closed.closed.0, leads_there p bounds closed.closed.0 closed.closed.0 ks closed.within closed.closed.1);
  positive = rw (sums_there (λ a. a.down) p bounds ks closed.within, sums_there (λ a. a.up) p bounds ks closed.within) closed.positive;
}

none_or_some : (x : ℕ) → (((x == 0) ≡ true) × (x ≡ 0)) ⊎ (((x == 0) ≡ false) × (0 < x))
none_or_some x = grind (arith, nat_tests)

nothing : (c : Bool) (x : ℕ) → x ≡ 0 → cond c x 0 ≡ 0
nothing true x e = e
nothing false x e = refl

-- what the bounds that carry an amount bring to an operation
pub amount_used : (p : Problem) (node : Arc → ℕ) (bounds : List Bound) (amounts : List ℕ) (v : ℕ) →
    amount_at (λ (c : Bound × ℕ). node (arc_of p c.0)) (λ c. c.1) (used bounds amounts) v ≡ flow_at node (arcs_for p bounds) amounts v
amount_used p node [] xs v = refl
amount_used p node (b ∷ bs) [] v = refl
amount_used p node (b ∷ bs) (x ∷ xs) v =
    let rest = amount_used p node bs xs v in
    elim (none_or_some x) [
      | inl none ↦ rw none.0 (let z = nothing (node (arc_of p b) == v) x none.1 in omega arith)
      | inr some ↦ rw some.0 (rw (sum_by-cons (λ (c : Bound × ℕ). cond (node (arc_of p c.0) == v) c.1 0) (b, x) (used bs xs)) (omega arith))
    ]

-- what holds of each bound that carries an amount
pub each_used : (P : Bound → Type 0) (bounds : List Bound) (amounts : List ℕ) → length amounts ≡ length bounds →
    ((k : ℕ) → k < length bounds → 0 < get_or amounts k 0 → P (bound_at bounds k)) → All (λ (c : Bound × ℕ). P c.0 × (0 < c.1)) (used bounds amounts)
each_used P [] xs same h = All-nil (λ (c : Bound × ℕ). P c.0 × (0 < c.1))
each_used P (b ∷ bs) [] same h = All-nil (λ (c : Bound × ℕ). P c.0 × (0 < c.1))
each_used P (b ∷ bs) (x ∷ xs) same h =
    let rest = each_used P bs xs (omega arith) (λ k k_in pos. h (suc k) (omega arith) pos) in
    elim (none_or_some x) [
      | inl none ↦ rw none.0 rest
      | inr some ↦ rw some.0 (All-cons (λ (c : Bound × ℕ). P c.0 × (0 < c.1)) (b, x) (used bs xs) (h zero (omega arith) some.1, some.1) rest)
    ]

-- and back
pub of_used : (P : Bound → Type 0) (bounds : List Bound) (amounts : List ℕ) → length amounts ≡ length bounds → All (λ (c : Bound × ℕ). P c.0) (used bounds amounts) →
    (k : ℕ) → k < length bounds → 0 < get_or amounts k 0 → P (bound_at bounds k)
of_used P [] xs same h k b pos = absurd (omega arith)
of_used P (b ∷ bs) [] same h k k_in pos = absurd (omega arith)
of_used P (b ∷ bs) (x ∷ xs) same h zero k_in pos =
    elim (none_or_some x) [
      | inl none ↦ absurd (omega (arith, none.1))
      | inr some ↦ (let all : All (λ (c : Bound × ℕ). P c.0) ((b, x) ∷ used bs xs) = rw some.0 at h in All-head (λ (c : Bound × ℕ). P c.0) (b, x) (used bs xs) all)
    ]
of_used P (b ∷ bs) (x ∷ xs) same h (suc k) k_in pos =
    elim (none_or_some x) [
      | inl none ↦ (let all : All (λ (c : Bound × ℕ). P c.0) (used bs xs) = rw none.0 at h in of_used P bs xs (omega arith) all k (omega arith) pos)
      | inr some ↦
          (let all : All (λ (c : Bound × ℕ). P c.0) ((b, x) ∷ used bs xs) = rw some.0 at h in
          of_used P bs xs (omega arith) (All-tail (λ (c : Bound × ℕ). P c.0) (b, x) (used bs xs) all) k (omega arith) pos)
    ]

-- the amounts are a dual flow
pub dual_flow : (p : Problem) (bounds : List Bound) (times amounts : List ℕ) → All (IsBoundOf p) bounds → AreOptimal p bounds times amounts → IsDualFlow p (used bounds amounts)
dual_flow p bounds times amounts of h =
    let each = each_used (IsBoundOf p) bounds amounts h.amounts_len (λ k b pos. of k (Early 0) b) in
    record {
      bounds = All-weaker (λ (c : Bound × ℕ). IsBoundOf p c.0 × (0 < c.1)) (λ c. IsBoundOf p c.0) (λ c q. q.0) (used bounds amounts) each;
      positive = All-weaker (λ (c : Bound × ℕ). IsBoundOf p c.0 × (0 < c.1)) (λ c. 0 < c.1) (λ c q. q.1) (used bounds amounts) each;
      balanced = λ v b.
          (let i = amount_used p (λ a. a.to) bounds amounts v in
          let o = amount_used p (λ a. a.from) bounds amounts v in
          let e = h.balanced v b in
          omega arith);
    }

used_last_none : (x : ℕ) (b : Bound) → x ≡ 0 → used (b ∷ []) (x ∷ []) ≡ []
used_last_none x b e = rw e refl

used_last_some : (x : ℕ) (b : Bound) → 0 < x → used (b ∷ []) (x ∷ []) ≡ (b, x) ∷ []
used_last_some x b pos =
    elim (none_or_some x) [
      | inl none ↦ absurd (omega (arith, none.1))
      | inr some ↦ rw some.0 refl
    ]

used_append : (bs cs : List Bound) (xs ys : List ℕ) → length xs ≡ length bs → used (bs ++ cs) (xs ++ ys) ≡ used bs xs ++ used cs ys
used_append [] cs [] ys same = refl
used_append [] cs (x ∷ xs) ys same = absurd (omega arith)
used_append (b ∷ bs) cs [] ys same = absurd (omega arith)
used_append (b ∷ bs) cs (x ∷ xs) ys same =
    let rest = used_append bs cs xs ys (omega arith) in
    elim (none_or_some x) [
      | inl none ↦ rw (none.0, rest) refl
      | inr some ↦ rw (some.0, rest) refl
    ]

-- one more bound
used_more : (bounds : List Bound) (amounts : List ℕ) (k : ℕ) → length amounts ≡ length bounds → k < length bounds →
    used (take (k + 1) bounds) (take (k + 1) amounts) ≡ used (take k bounds) (take k amounts) ++ used (bound_at bounds k ∷ []) (get_or amounts k 0 ∷ [])
used_more bounds amounts k same b =
    rw (take_more bounds k (Early 0) b, take_more amounts k 0 (omega arith))
    (used_append (take k bounds) (bound_at bounds k ∷ []) (take k amounts) (get_or amounts k 0 ∷ [])
    (length-take-le k amounts (omega arith) ∙ sym (length-take-le k bounds (omega arith))))

pub used_more_none : (bounds : List Bound) (amounts : List ℕ) (k : ℕ) (flow : Flow) → length amounts ≡ length bounds → k < length bounds → get_or amounts k 0 ≡ 0 →
    flow ≡ used (take k bounds) (take k amounts) → flow ≡ used (take (k + 1) bounds) (take (k + 1) amounts)
used_more_none bounds amounts k flow same b none is =
    rw (used_more bounds amounts k same b, used_last_none (get_or amounts k 0) (bound_at bounds k) none, ← is) (sym (append-nil flow))

pub used_more_some : (bounds : List Bound) (amounts : List ℕ) (k : ℕ) (flow new : Flow) (bound : Bound) → length amounts ≡ length bounds → k < length bounds → 0 < get_or amounts k 0 →
    flow ≡ used (take k bounds) (take k amounts) → bound ≡ bound_at bounds k → new ≡ flow ++ (bound, get_or amounts k 0) ∷ [] →
    new ≡ used (take (k + 1) bounds) (take (k + 1) amounts)
used_more_some bounds amounts k flow new bound same b pos is eb en =
    rw (used_more bounds amounts k same b, used_last_some (get_or amounts k 0) (bound_at bounds k) pos, ← is, en, eb) refl
