-- Steps of the check, one after the other, and what it means that none has a fault.
use Rattle.std.proofs.Common.{◌≡◌, ◌≢◌, ℕ, suc, ◌+◌, ◌-◌, ◌*◌, ◌≤◌, ◌<◌, List, [], ◌∷◌, ◌++◌, length, get_or, Some, None, refl, ◌∙◌, ap, subst, arith, ◌⊎◌, inl, inr}
use Rattle.std.specs.Prelude.{Option, All, sum_by}
use Rattle.std.proofs.lemmas.List.{get_or_default}
use Rattle.std.proofs.lemmas.List.Elements.{All-nil, All-cons, All-head, All-tail}
use Rattle.ix_graph.specs.declared.graph.Mode.{Mode}
use Rattle.ix_sheet.specs.declared.problem.Bound.{Bound}
use Rattle.ix_sheet.specs.declared.problem.Bound.TheVariants.{Early}
use Rattle.ix_sheet.specs.declared.problem.Problem.{Problem}
use Rattle.ix_sheet.specs.Schedules.{node_at, IsAfter, IsInWindow, IsFreePath, last_of, delay_along, IsLegal, IsSchedule, IsCheapest, HasSchedule, cost, weight_of}
use Rattle.ix_sheet.proofs.Duality.{cheapest_by_flow}
use Rattle.ix_sheet.proofs.Cycles.{no_schedule}
use Rattle.ix_sheet.proofs.Paths.{last_inside}
use Rattle.ix_sheet.specs.Bounds.{IsBoundOf, arc_of, inflow, outflow, weight_in, weight_out, IsBalanced, IsDualFlow, HasValue, Leads, IsContradiction}
use Rattle.ix_cert.specs.declared.report.CertErr.{CertErr}
use Rattle.ix_cert.specs.declared.report.ReportBlock.{ReportBlock}
use Rattle.ix_cert.specs.Faults.{Step, IsFirstBad, HasNoBad, IsFirstFault, HasNoFault, times_of, IsBroken, IsOutside, blank_part, NamesNone, IsUnbalanced, end_before, IsOpen, times_steps, flow_steps, cycle_steps, steps_in, block_count, steps_from, IsCertifiedIn, IsCertified}
use Rattle.ix_cert.specs.Checks.{Tells, IsReadySchedule, IsReadyCycle, IsReadyIn}
use Rattle.ix_cert.proofs.BoundTests.{bound_or_not}

-- ---- steps
pub tells_none : (step : Step) → Tells step.items step.IsBad None → HasNoBad step
tells_none step h = h

pub tells_some : (step : Step) (k : ℕ) → Tells step.items step.IsBad (Some k) → IsFirstBad step k
tells_some step k h = record { inside = h.0; bad = h.1; before = h.2 }

-- the first step has the fault, or a later one
pub fault_here : (step : Step) (rest : List Step) (k : ℕ) (e : CertErr) → Tells step.items step.IsBad (Some k) → step.told k ≡ e → IsFirstFault (step ∷ rest) e
fault_here step rest k e h same = inl (k, tells_some step k h, same)

pub fault_front : (xs ys : List Step) (e : CertErr) → IsFirstFault xs e → IsFirstFault (xs ++ ys) e
fault_front [] ys e h = absurd h
fault_front (x ∷ xs) ys e (inl h) = inl h
fault_front (x ∷ xs) ys e (inr h) = inr (h.0, fault_front xs ys e h.1)

pub fault_back : (xs ys : List Step) (e : CertErr) → HasNoFault xs → IsFirstFault ys e → IsFirstFault (xs ++ ys) e
fault_back [] ys e none h = h
fault_back (x ∷ xs) ys e none h = inr (none.0, fault_back xs ys e none.1 h)

pub none_both : (xs ys : List Step) → HasNoFault xs → HasNoFault ys → HasNoFault (xs ++ ys)
none_both [] ys a b = b
none_both (x ∷ xs) ys a b = (a.0, none_both xs ys a.1 b)

none_front : (xs ys : List Step) → HasNoFault (xs ++ ys) → HasNoFault xs
none_front [] ys h = tt
none_front (x ∷ xs) ys h = (h.0, none_front xs ys h.1)

none_back : (xs ys : List Step) → HasNoFault (xs ++ ys) → HasNoFault ys
none_back [] ys h = h
none_back (x ∷ xs) ys h = none_back xs ys h.1

-- ---- tests that are no faults
le_or_lt : (a b : ℕ) → (a ≤ b) ⊎ (b < a)
le_or_lt a b = grind arith

eq_or_ne : (a b : ℕ) → (a ≡ b) ⊎ (a ≢ b)
eq_or_ne a b = grind arith

kept_edge : (b : ReportBlock) (k : ℕ) → (IsBroken b k → ⊥) → IsAfter b.problem (times_of b) (get_or b.problem.edges k (0, 0))
kept_edge b k h =
    let e = get_or b.problem.edges k (0, 0) in
    elim (le_or_lt (times_of b e.0 + (node_at b.problem e.0).latency) (times_of b e.1)) [
      | inl kept ↦ kept
      | inr broken ↦ absurd (h (λ after. omega (arith, broken, after)))
    ]

pub all_kept : (b : ReportBlock) → ((k : ℕ) → k < length b.problem.edges → IsBroken b k → ⊥) → All (IsAfter b.problem (times_of b)) b.problem.edges
all_kept b none k d h = subst (IsAfter b.problem (times_of b)) (get_or_default b.problem.edges k (0, 0) d h) (kept_edge b k (none k h))

in_window : (b : ReportBlock) (k : ℕ) → (IsOutside b k → ⊥) → IsInWindow (node_at b.problem k) (times_of b k)
in_window b k h = elim (le_or_lt (node_at b.problem k).early (times_of b k)) [
  | inr soon ↦ absurd (h (λ w. omega (arith, soon, w.0)))
  | inl low ↦ elim (le_or_lt (times_of b k) (node_at b.problem k).late) [
    | inr past ↦ absurd (h (λ w. omega (arith, past, w.1)))
    | inl high ↦ (low, high)
  ]
]

pub all_named : (p : Problem) (flow : List (Bound × ℕ)) → ((k : ℕ) → k < length flow → NamesNone p (get_or flow k blank_part).0 → ⊥) → All (λ c. IsBoundOf p c.0) flow
all_named p flow none k d h = subst (λ (c : Bound × ℕ). IsBoundOf p c.0) (get_or_default flow k blank_part d h) (bound_or_not p (get_or flow k blank_part).0 (none k h))

pub all_bounds : (p : Problem) (cycle : List Bound) → ((k : ℕ) → k < length cycle → NamesNone p (get_or cycle k (Early 0)) → ⊥) → All (IsBoundOf p) cycle
all_bounds p cycle none k d h = subst (IsBoundOf p) (get_or_default cycle k (Early 0) d h) (bound_or_not p (get_or cycle k (Early 0)) (none k h))

-- ---- what a yes says
legal : (b : ReportBlock) (first : ℕ) → HasNoFault (times_steps b first) → ((path : List ℕ) → IsFreePath b.problem path → last_of path < length b.problem.ops)
    → IsLegal b.problem (times_of b)
legal b first none inside = record {
  windows = λ k h. in_window b k (none.1.0 k h);
  edges = all_kept b none.0;
  period = λ path free one_time. elim (le_or_lt (delay_along b.problem path) b.problem.period) [
    | inl fits ↦ fits
    | inr long ↦ absurd (none.1.1.0 (last_of path) (inside path free) (record { path = path; free = free; one_time = one_time; last = refl; long = long }))
  ];
}

cost_is : (b : ReportBlock) (first : ℕ) → HasNoFault (times_steps b first) → b.cost ≡ cost b.problem (times_of b)
cost_is b first none = elim (eq_or_ne b.cost (cost b.problem (times_of b))) [
  | inl same ↦ same
  | inr differ ↦ absurd (none.1.1.1.0 0 (omega arith) differ)
]

first_balanced : (b : ReportBlock) → ((k : ℕ) → k < length b.problem.ops → IsUnbalanced b k → ⊥) → IsBalanced b.problem b.flow
first_balanced b none k h = elim (eq_or_ne (inflow b.problem b.flow k + weight_out b.problem k) (outflow b.problem b.flow k + (1 + weight_in b.problem k))) [
  | inl same ↦ same
  | inr differ ↦ absurd (none k h differ)
]

value_is : (b : ReportBlock) (first : ℕ) → HasNoFault (flow_steps b first) → HasValue b.problem b.flow b.cost
value_is b first none =
    elim (eq_or_ne (sum_by (λ c. c.1 * (arc_of b.problem c.0).up) b.flow)
    (b.cost + sum_by (λ c. c.1 * (arc_of b.problem c.0).down) b.flow + sum_by (λ e. weight_of (node_at b.problem e.0) * (node_at b.problem e.0).latency) b.problem.edges)) [
      | inl same ↦ same
      | inr differ ↦ absurd (none.1.1.0 0 (omega arith) (λ has. differ has))
    ]

schedule_certified : (b : ReportBlock) (first : ℕ) → IsReadySchedule b → All (λ c. 0 < c.1) b.flow → HasNoFault (times_steps b first ++ flow_steps b first)
    → IsSchedule b.problem b.times × IsCheapest b.problem (times_of b) × (b.cost ≡ cost b.problem (times_of b))
schedule_certified b first ready positive none =
    let front : HasNoFault (times_steps b first) = none_front (times_steps b first) (flow_steps b first) none in
    let back : HasNoFault (flow_steps b first) = none_back (times_steps b first) (flow_steps b first) none in
    let is_legal : IsLegal b.problem (times_of b) = legal b first front (λ path free. last_inside b.problem path ready.ready.valid free) in
    let same = cost_is b first front in
    let dual : IsDualFlow b.problem b.flow = record { bounds = all_named b.problem b.flow back.0; positive = positive; balanced = first_balanced b back.1.0 } in
    let value : HasValue b.problem b.flow (cost b.problem (times_of b)) = subst (HasValue b.problem b.flow) same (value_is b first back) in
    (record { count = ready.times; legal = is_legal }, cheapest_by_flow b.problem ready.ready.valid b.flow dual (times_of b) is_legal value, same)

-- ---- a cycle of bounds, each of which starts where the one before ends
abbrev start_of : Problem → List Bound → ℕ → ℕ
start_of p xs k = (arc_of p (get_or xs k (Early 0))).from

abbrev end_of : Problem → List Bound → ℕ → ℕ
end_of p xs k = (arc_of p (get_or xs k (Early 0))).to

leads_on : (p : Problem) (x : Bound) (xs : List Bound) → ((k : ℕ) → k < length xs → start_of p xs k ≡ end_of p (x ∷ xs) k) → Leads p (arc_of p x).to xs (end_of p (x ∷ xs) (length xs))
leads_on p x [] joined = refl
leads_on p x (y ∷ ys) joined = (joined 0 (omega arith), leads_on p y ys (λ k h. joined (suc k) (omega arith)))

closed : (p : Problem) (cycle : List Bound) → ((k : ℕ) → k < length cycle → start_of p cycle k ≡ end_before p cycle k) → (a : ℕ) × Leads p a cycle a
closed p [] joined = (0, refl)
closed p (x ∷ xs) joined =
    let last : length (x ∷ xs) - 1 ≡ length xs = omega arith in
    let first : (arc_of p x).from ≡ end_of p (x ∷ xs) (length xs) = joined 0 (omega arith) ∙ ap (end_of p (x ∷ xs)) last in
    (end_of p (x ∷ xs) (length xs), (first, leads_on p x xs (λ k h. joined (suc k) (omega arith))))

joined_at : (b : ReportBlock) (k : ℕ) → (IsOpen b k → ⊥) → start_of b.problem b.cycle k ≡ end_before b.problem b.cycle k
joined_at b k h = elim (eq_or_ne (start_of b.problem b.cycle k) (end_before b.problem b.cycle k)) [
  | inl same ↦ same
  | inr differ ↦ absurd (h differ)
]

cycle_certified : (b : ReportBlock) (first : ℕ) → IsReadyCycle b → HasNoFault (cycle_steps b first) → HasSchedule b.problem → ⊥
cycle_certified b first ready none has =
    let contradiction : IsContradiction b.problem b.cycle = record {
      bounds = all_bounds b.problem b.cycle none.0;
      closed = closed b.problem b.cycle (λ k h. joined_at b k (none.1.0 k h));
      positive = elim (le_or_lt (sum_by (λ x. (arc_of b.problem x).up) b.cycle) (sum_by (λ x. (arc_of b.problem x).down) b.cycle)) [
        | inl low ↦ absurd (none.1.1.0 0 (omega arith) low)
        | inr high ↦ high
      ];
    } in
    no_schedule b.problem ready.ready.valid b.cycle contradiction has.0 has.1

-- ---- whole reports
certified_in : (b : ReportBlock) (mode : Option Mode) (first : ℕ) → IsReadyIn b mode → All (λ c. 0 < c.1) b.flow → HasNoFault (steps_in mode b first) → IsCertifiedIn b mode
certified_in b None first ready positive none = cycle_certified b first ready none
certified_in b (Some mode) first ready positive none = schedule_certified b first ready positive none

abbrev pub IsReadyBlock : ReportBlock → Type 0
IsReadyBlock b = IsReadyIn b b.mode

pub all_certified : (blocks : List ReportBlock) (first : ℕ) → All IsReadyBlock blocks → All (λ b. All (λ c. 0 < c.1) b.flow) blocks → HasNoFault (steps_from blocks first)
    → All IsCertified blocks
all_certified [] first ready positive none = All-nil IsCertified
all_certified (b ∷ rest) first ready positive none =
    All-cons IsCertified b rest
    (certified_in b b.mode first (All-head IsReadyBlock b rest ready) (All-head (λ b. All (λ c. 0 < c.1) b.flow) b rest positive)
    (none_front (steps_in b.mode b first) (steps_from rest (first + block_count b)) none))
    (all_certified rest (first + block_count b) (All-tail IsReadyBlock b rest ready) (All-tail (λ b. All (λ c. 0 < c.1) b.flow) b rest positive)
    (none_back (steps_in b.mode b first) (steps_from rest (first + block_count b)) none))

-- ---- the steps of one behaviour after the other
pub block_fault : (b : ReportBlock) (rest : List ReportBlock) (first : ℕ) (e : CertErr) → IsFirstFault (steps_in b.mode b first) e → IsFirstFault (steps_from (b ∷ rest) first) e
block_fault b rest first e h = fault_front (steps_in b.mode b first) (steps_from rest (first + block_count b)) e h

pub later_fault : (b : ReportBlock) (rest : List ReportBlock) (first : ℕ) (e : CertErr) → HasNoFault (steps_in b.mode b first)
    → IsFirstFault (steps_from rest (first + block_count b)) e → IsFirstFault (steps_from (b ∷ rest) first) e
later_fault b rest first e none h = fault_back (steps_in b.mode b first) (steps_from rest (first + block_count b)) e none h

pub none_later : (b : ReportBlock) (rest : List ReportBlock) (first : ℕ) → HasNoFault (steps_in b.mode b first) → HasNoFault (steps_from rest (first + block_count b))
    → HasNoFault (steps_from (b ∷ rest) first)
none_later b rest first none h = none_both (steps_in b.mode b first) (steps_from rest (first + block_count b)) none h
