-- Delays along paths within one time, edge by edge.
use Rattle.std.proofs.Common.{◌≡◌, ◌≢◌, ℕ, ◌+◌, ◌*◌, ◌≤◌, ◌<◌, ◌==◌, true, false, max, List, [], ◌∷◌, ◌++◌, length, get_or, set, map, refl, sym, ◌∙◌, ap, subst, arith, ◌⊎◌, inl, inr}
use Rattle.std.specs.Prelude.{All, AllPairs, sum_by}
use Rattle.std.specs.Prelude.{Option, Some, None}
use Rattle.std.proofs.lemmas.List.{length-map, get_or-set_same, get_or-set_other, length-set, get_or-map, get_or_default}
use Rattle.std.proofs.lemmas.List.Sums.{sum_by-cons}
use Rattle.std.proofs.lemmas.List.Elements.{All-nil, All-cons, All-head, All-tail, All-contains, All-push, Contains-get_or}
use Rattle.std.proofs.lemmas.Bool.{and_parts, and_from, eqb-true, eq-eqb}
use Rattle.ix_sheet.specs.declared.problem.Node.{Node}
use Rattle.ix_sheet.specs.declared.problem.Problem.{Problem}
use Rattle.ix_sheet.specs.Schedules.{node_at, IsValidProblem, IsForward, HasFreeEdge, Runs, IsFreePath, first_of, last_after, last_of, delay_along}
use Rattle.ix_cert.specs.Layout.{IsBefore}
use Rattle.ix_cert.specs.Faults.{IsPassed}
use Rattle.ix_cert.specs.Checks.{IsReachedWith, IsJoining, joins_edge, delay_at, Exceeds, AreReached, AreSmall, Tells}

-- ---- a path that goes on along an edge
runs_more : (p : Problem) (i : ℕ) (rest : List ℕ) (j : ℕ) → Runs p i rest → HasFreeEdge p (last_after i rest) j → Runs p i (rest ++ j ∷ [])
runs_more p i [] j r e = (e, tt)
runs_more p i (k ∷ rest) j r e = (r.0, runs_more p k rest j r.1 e)

last_more : (i : ℕ) (rest : List ℕ) (j : ℕ) → last_after i (rest ++ j ∷ []) ≡ j
last_more i [] j = refl
last_more i (k ∷ rest) j = last_more k rest j

sum_more : (p : Problem) (xs : List ℕ) (j : ℕ) → delay_along p (xs ++ j ∷ []) ≡ delay_along p xs + delay_at p j
sum_more p [] j = omega (arith, sum_by-cons (delay_at p) j [])
sum_more p (x ∷ xs) j = omega (arith, sum_by-cons (delay_at p) x (xs ++ j ∷ []), sum_by-cons (delay_at p) x xs, sum_more p xs j)

last_same : (t : ℕ → ℕ) (x i : ℕ) (rest : List ℕ) → t i ≡ x → All (λ k. t k ≡ x) rest → t (last_after i rest) ≡ x
last_same t x i [] e h = e
last_same t x i (j ∷ rest) e h = last_same t x j rest (All-head (λ k. t k ≡ x) j rest h) (All-tail (λ k. t k ≡ x) j rest h)

last_time : (t : ℕ → ℕ) (x : ℕ) (rest : List ℕ) → All (λ k. t k ≡ t x) (x ∷ rest) → t (last_after x rest) ≡ t x
last_time t x rest one = last_same t (t x) x rest refl (All-tail (λ k. t k ≡ t x) x rest one)

path_more : (p : Problem) (t : ℕ → ℕ) (i j delay : ℕ) → IsReachedWith p t i delay → HasFreeEdge p i j → t i ≡ t j → IsReachedWith p t j (delay + delay_at p j)
path_more p t i j delay r e same = go r.path refl
  where
    go : (path : List ℕ) → r.path ≡ path → IsReachedWith p t j (delay + delay_at p j)
    go [] here = absurd (subst (IsFreePath p) here r.free)
    go (x ∷ rest) here =
        let free : IsFreePath p (x ∷ rest) = subst (IsFreePath p) here r.free in
        let last : last_after x rest ≡ i = ap last_of (sym here) ∙ r.last in
        let one : All (λ k. t k ≡ t (first_of (x ∷ rest))) (x ∷ rest) = subst (λ (q : List ℕ). All (λ k. t k ≡ t (first_of q)) q) here r.one_time in
        let ends : t i ≡ t x = ap t (sym last) ∙ last_time t x rest one in
        record {
          path = x ∷ (rest ++ j ∷ []);
          free = (free.0, runs_more p x rest j free.1 (subst (λ k. HasFreeEdge p k j) (sym last) e));
          one_time = All-push (λ k. t k ≡ t x) (x ∷ rest) j one (sym same ∙ ends);
          last = last_more x rest j;
          total = sum_more p (x ∷ rest) j ∙ ap (λ (d : ℕ). d + delay_at p j) (ap (delay_along p) (sym here) ∙ r.total);
        }

alone : (p : Problem) (t : ℕ → ℕ) (k : ℕ) → k < length p.ops → IsReachedWith p t k (delay_at p k)
alone p t k h = record {
  path = k ∷ [];
  free = (h, tt);
  one_time = All-cons (λ i. t i ≡ t k) k [] refl (All-nil (λ i. t i ≡ t k));
  last = refl;
  total = omega (arith, sum_by-cons (delay_at p) k []);
}

-- ---- before any edge
pub begun : (p : Problem) (t : ℕ → ℕ) (reach : List ℕ) → reach ≡ map (λ (node : Node). node.delay) p.ops → AreReached p t 0 reach
begun p t reach e =
    let count : length reach ≡ length p.ops = ap (λ (xs : List ℕ). length xs) e ∙ length-map p.ops (λ (node : Node). node.delay) in
    let at : (k : ℕ) → k < length p.ops → get_or reach k 0 ≡ delay_at p k =
    λ k h. ap (λ (xs : List ℕ). get_or xs k 0) e ∙ get_or-map (λ (node : Node). node.delay) p.ops k (record { delay = 0; latency = 0; weight = 0; early = 0; late = 0 }) 0 h
    in
    record {
      count = count;
      reached = λ k h. subst (IsReachedWith p t k) (sym (at k h)) (alone p t k h);
      own = λ k h. omega (arith, at k h);
      passed = λ m h. absurd (omega arith);
    }

-- ---- along one edge more
abbrev edge_at : Problem → ℕ → ℕ × ℕ
edge_at p m = get_or p.edges m (0, 0)

abbrev at : List ℕ → ℕ → ℕ
at reach k = get_or reach k 0

max_or : (a b : ℕ) → (max a b ≡ a) ⊎ (max a b ≡ b)
max_or a b = grind arith

eq_or_lt : (a b : ℕ) → a < b + 1 → (a ≡ b) ⊎ (a < b)
eq_or_lt a b h = grind arith

eq_or_ne : (a b : ℕ) → (a ≡ b) ⊎ (a ≢ b)
eq_or_ne a b = grind arith

forward_at : (p : Problem) (m : ℕ) → IsValidProblem p → m < length p.edges → IsForward p (edge_at p m)
forward_at p m valid h = valid.forward m (0, 0) h

-- an edge that goes no longer
pub kept_over : (p : Problem) (t : ℕ → ℕ) (m : ℕ) (reach : List ℕ) → (IsJoining p t (edge_at p m) → ⊥) → AreReached p t m reach → AreReached p t (m + 1) reach
kept_over p t m reach apart are = record {
  count = are.count;
  reached = are.reached;
  own = are.own;
  passed = λ k h joins. elim (eq_or_lt k m h) [
    | inl same ↦ absurd (apart (subst (λ n. IsJoining p t (edge_at p n)) same joins))
    | inr less ↦ are.passed k less joins
  ];
}

module _ (p : Problem) (t : ℕ → ℕ) (m value : ℕ) (reach : List ℕ) (valid : IsValidProblem p) (ordered : AllPairs IsBefore p.edges) (inside : m < length p.edges)
    (joins : IsJoining p t (edge_at p m)) (are : AreReached p t m reach) where
  abbrev from : ℕ
  from = (edge_at p m).0

  abbrev to : ℕ
  to = (edge_at p m).1

  abbrev more : List ℕ
  more = set reach to value

  forward : IsForward p (edge_at p m)
  forward = forward_at p m valid inside

  free : HasFreeEdge p from to
  free = (Contains-get_or p.edges m (0, 0) inside, joins.0)

  module _ (is : value ≡ max (at reach from + delay_at p to) (at reach to)) where
    here : at more to ≡ value
    here = get_or-set_same reach to value 0 (omega (arith, forward.1, are.count))

    there : (k : ℕ) → k ≢ to → at more k ≡ at reach k
    there k differ = get_or-set_other reach to k value 0 differ

    reached_value : IsReachedWith p t to value
    reached_value = elim (max_or (at reach from + delay_at p to) (at reach to)) [
      | inl longer ↦ subst (IsReachedWith p t to) (sym (is ∙ longer)) (path_more p t from to (at reach from) (are.reached from (omega (arith, forward.0, forward.1))) free joins.1)
      | inr now ↦ subst (IsReachedWith p t to) (sym (is ∙ now)) (are.reached to forward.1)
    ]

    reached_next : (k : ℕ) → k < length p.ops → IsReachedWith p t k (at more k)
    reached_next k h = elim (eq_or_ne k to) [
      | inl same ↦ subst (λ n. IsReachedWith p t n (at more n)) (sym same) (subst (IsReachedWith p t to) (sym here) reached_value)
      | inr differ ↦ subst (IsReachedWith p t k) (sym (there k differ)) (are.reached k h)
    ]

    own_next : (k : ℕ) → k < length p.ops → delay_at p k ≤ at more k
    own_next k h = elim (eq_or_ne k to) [
      | inl same ↦ (let rise : delay_at p to ≤ at more to = omega (arith, here, is, are.own to forward.1) in subst (λ n. delay_at p n ≤ at more n) (sym same) rise)
      | inr differ ↦ omega (arith, there k differ, are.own k h)
    ]

    -- no edge before starts where this one ends
    start_apart : (k : ℕ) → k < m → (edge_at p k).0 ≢ to
    start_apart k less same =
        let other = forward_at p k valid (omega (arith, less, inside)) in
        elim (ordered k m (0, 0) less inside) [
          | inl before ↦ omega (arith, before, other.0, same)
          | inr equal ↦ omega (arith, equal.0, other.0, same)
        ]

    rises : (k : ℕ) → at reach k ≤ at more k
    rises k = elim (eq_or_ne k to) [
      | inl same ↦ (let up : at reach to ≤ at more to = omega (arith, here, is) in subst (λ n. at reach n ≤ at more n) (sym same) up)
      | inr differ ↦ omega (arith, there k differ)
    ]

    passed_next : (k : ℕ) → k < m + 1 → IsJoining p t (edge_at p k) → Exceeds p more (edge_at p k)
    passed_next k h joined = elim (eq_or_lt k m h) [
      | inl same ↦
          (let apart : from ≢ to = λ e. omega (arith, forward.0, e) in
          let this : Exceeds p more (edge_at p m) = omega (arith, here, is, there from apart) in
          subst (λ n. Exceeds p more (edge_at p n)) (sym same) this)
      | inr less ↦ omega (arith, are.passed k less joined, there (edge_at p k).0 (start_apart k less), rises (edge_at p k).1)
    ]

    pub kept_along : AreReached p t (m + 1) more
    kept_along = record { count = length-set reach to value ∙ are.count; reached = reached_next; own = own_next; passed = passed_next }

-- ---- no path within one time is longer
run_within : (p : Problem) (t : ℕ → ℕ) (reach : List ℕ) → IsValidProblem p → AreReached p t (length p.edges) reach → (i : ℕ) (rest : List ℕ) (delay : ℕ)
    → i < length p.ops → Runs p i rest → All (λ k. t k ≡ t i) rest → delay ≤ at reach i → delay + sum_by (delay_at p) rest ≤ at reach (last_after i rest)
run_within p t reach valid are i [] delay inside runs one low = omega (arith, low)
run_within p t reach valid are i (j ∷ rest) delay inside runs one low =
    let c = runs.0.0 in
    let edge : edge_at p c.0 ≡ (i, j) = get_or_default p.edges c.0 (0, 0) (i, j) c.1 ∙ c.2 in
    let first : t j ≡ t i = All-head (λ k. t k ≡ t i) j rest one in
    let joins : IsJoining p t (edge_at p c.0) = subst (IsJoining p t) (sym edge) (runs.0.1, sym first) in
    let over : Exceeds p reach (i, j) = subst (Exceeds p reach) edge (are.passed c.0 c.1 joins) in
    let forward : IsForward p (i, j) = All-contains (IsForward p) p.edges (i, j) valid.forward c in
    let later : All (λ k. t k ≡ t j) rest = λ k d h. All-tail (λ k. t k ≡ t i) j rest one k d h ∙ sym first in
    let last = run_within p t reach valid are j rest (delay + delay_at p j) forward.1 runs.1 later (omega (arith, over, low)) in
    omega (arith, last, sum_by-cons (delay_at p) j rest)

path_within : (p : Problem) (t : ℕ → ℕ) (reach path : List ℕ) → IsValidProblem p → AreReached p t (length p.edges) reach → IsFreePath p path
    → All (λ k. t k ≡ t (first_of path)) path → delay_along p path ≤ at reach (last_of path)
path_within p t reach [] valid are free one = absurd free
path_within p t reach (i ∷ rest) valid are free one =
    omega (arith, run_within p t reach valid are i rest (delay_at p i) free.0 free.1 (All-tail (λ k. t k ≡ t i) i rest one) (are.own i free.0), sum_by-cons (delay_at p) i rest)

passed_from : (p : Problem) (t : ℕ → ℕ) (reach : List ℕ) (k : ℕ) → AreReached p t (length p.edges) reach → k < length p.ops → p.period < at reach k → IsPassed p t k
passed_from p t reach k are h long = let r = are.reached k h in record { path = r.path; free = r.free; one_time = r.one_time; last = r.last; long = omega (arith, r.total, long) }

passed_to : (p : Problem) (t : ℕ → ℕ) (reach : List ℕ) (k : ℕ) → IsValidProblem p → AreReached p t (length p.edges) reach → IsPassed p t k → p.period < at reach k
passed_to p t reach k valid are q = omega (arith, q.long, path_within p t reach q.path valid are q.free q.one_time, ap (at reach) q.last)

pub tells_passed : (p : Problem) (t : ℕ → ℕ) (reach : List ℕ) (r : Option ℕ) → IsValidProblem p → AreReached p t (length p.edges) reach
    → Tells (length reach) (λ k. p.period < at reach k) r → Tells (length p.ops) (IsPassed p t) r
tells_passed p t reach None valid are none = λ k h q. none k (omega (arith, h, are.count)) (passed_to p t reach k valid are q)
tells_passed p t reach (Some k) valid are some =
    (omega (arith, some.0, are.count), passed_from p t reach k are (omega (arith, some.0, are.count)) some.1, λ j h q. some.2 j h (passed_to p t reach j valid are q))

-- ---- one turn, in the code's words
joins_from : (p : Problem) (t : ℕ → ℕ) (e : ℕ × ℕ) → joins_edge p t e ≡ true → IsJoining p t e
joins_from p t e h =
    let parts = and_parts ((node_at p e.0).latency == 0) (t e.0 == t e.1) h in
    (eqb-true (node_at p e.0).latency 0 parts.0, eqb-true (t e.0) (t e.1) parts.1)

joins_not : (p : Problem) (t : ℕ → ℕ) (e : ℕ × ℕ) → joins_edge p t e ≡ false → IsJoining p t e → ⊥
joins_not p t e h joins =
    let clash : joins_edge p t e ≡ true =
    and_from ((node_at p e.0).latency == 0) (t e.0 == t e.1) (eq-eqb (node_at p e.0).latency 0 joins.0) (eq-eqb (t e.0) (t e.1) joins.1)
    in
    let same : false ≡ true = sym h ∙ clash in
    cc

pub step_over : (p : Problem) (t : ℕ → ℕ) (m : ℕ) (reach last : List ℕ) → joins_edge p t (edge_at p m) ≡ false → last ≡ reach → AreReached p t m reach × AreSmall reach
    → AreReached p t (m + 1) last × AreSmall last
step_over p t m reach last test e are =
    subst (λ (xs : List ℕ). AreReached p t (m + 1) xs × AreSmall xs) (sym e) (kept_over p t m reach (joins_not p t (edge_at p m) test) are.0, are.1)

small_set : (reach : List ℕ) (to value : ℕ) → to < length reach → AreSmall reach → value ≤ (to + 1) * 4294967295 → AreSmall (set reach to value)
small_set reach to value inside small low k = elim (eq_or_ne k to) [
  | inl same ↦ (let here = get_or-set_same reach to value 0 inside in subst (λ n. at (set reach to value) n ≤ (n + 1) * 4294967295) (sym same) (omega (arith, here, low)))
  | inr differ ↦ omega (arith, get_or-set_other reach to k value 0 differ, small k)
]

pub step_along : (p : Problem) (t : ℕ → ℕ) (m value : ℕ) (reach last : List ℕ) → IsValidProblem p → AllPairs IsBefore p.edges → m < length p.edges
    → joins_edge p t (edge_at p m) ≡ true → delay_at p (edge_at p m).1 ≤ 4294967295
    → value ≡ max (at reach (edge_at p m).0 + delay_at p (edge_at p m).1) (at reach (edge_at p m).1)
    → last ≡ set reach (edge_at p m).1 value → AreReached p t m reach × AreSmall reach → AreReached p t (m + 1) last × AreSmall last
step_along p t m value reach last valid ordered inside test small is e are =
    let forward = forward_at p m valid inside in
    let from = are.1 (edge_at p m).0 in
    let now = are.1 (edge_at p m).1 in
    subst (λ (xs : List ℕ). AreReached p t (m + 1) xs × AreSmall xs) (sym e) (
      kept_along p t m value reach valid ordered inside (joins_from p t (edge_at p m) test) are.0 is,
      small_set reach (edge_at p m).1 value (omega (arith, forward.1, are.0.count)) are.1 (omega (arith, is, from, now, small, forward.0)),
    )

-- the same, where the edge has another name
pub step_along_it : (p : Problem) (t : ℕ → ℕ) (m value : ℕ) (e : ℕ × ℕ) (reach last : List ℕ) → IsValidProblem p → AllPairs IsBefore p.edges → m < length p.edges → e ≡ edge_at p m
    → joins_edge p t e ≡ true → delay_at p e.1 ≤ 4294967295 → value ≡ max (at reach e.0 + delay_at p e.1) (at reach e.1)
    → last ≡ set reach e.1 value → AreReached p t m reach × AreSmall reach → AreReached p t (m + 1) last × AreSmall last
step_along_it p t m value e reach last valid ordered inside same test small is set_is are =
    step_along p t m value reach last valid ordered inside (subst (λ x. joins_edge p t x ≡ true) same test) (subst (λ (x : ℕ × ℕ). delay_at p x.1 ≤ 4294967295) same small)
    (subst (λ (x : ℕ × ℕ). value ≡ max (at reach x.0 + delay_at p x.1) (at reach x.1)) same is) (subst (λ (x : ℕ × ℕ). last ≡ set reach x.1 value) same set_is) are
