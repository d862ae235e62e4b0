-- The path along the operations before is a free path of the greatest delay.
use Rattle.std.proofs.Common.{◌≡◌, ◌≢◌, ℕ, ◌+◌, ◌≤◌, ◌<◌, List, [], ◌∷◌, ◌++◌, length, reverse, Option, Some, None, refl, sym, ◌∙◌, ap, subst, arith}
use Rattle.std.specs.Prelude.{sum_by, MatchOption}
use Rattle.std.proofs.lemmas.List.{reverse-append}
use Rattle.std.proofs.lemmas.List.Sums.{sum_by-cons}
use Rattle.ix_sheet.specs.declared.problem.Problem.{Problem}
use Rattle.ix_sheet.specs.Schedules.{IsValidProblem, HasFreeEdge, Runs, IsFreePath, first_of, last_after, last_of, delay_along}
use Rattle.ix_problem.specs.declared.reach.Reach.{Reach}
use Rattle.ix_problem.specs.Reaches.{delay_at, reach_at, AreReaches, LeadBack, Follow, IsTrail}
use Rattle.ix_problem.proofs.Reaching.{edge_forward}

some_same : (a b : Reach) → Some a ≡ Some b → a ≡ b
some_same a b e = cc

abbrev sum_along : Problem → List ℕ → ℕ
sum_along p rest = sum_by (delay_at p) rest

-- ---- a trail is a free path, of the delay of its end
pub record IsRun (p : Problem) (reaches : List (Option Reach)) (i : ℕ) (rest : List ℕ) (delay : ℕ) : Type 0 where
  pub runs : Runs p i rest
  pub reach : Reach
  pub found : reach_at reaches (last_after i rest) ≡ Some reach
  pub total : delay + sum_along p rest ≡ reach.delay

follow_run : (p : Problem) (source : ℕ) (reaches : List (Option Reach)) → AreReaches p source reaches → (i : ℕ) (q : Reach) (rest : List ℕ) → reach_at reaches i ≡ Some q
    → Follow reaches source i rest → IsRun p reaches i rest q.delay
follow_run p source reaches are i q [] e f = record { runs = tt; reach = q; found = e; total = omega arith }
follow_run p source reaches are i q (j ∷ rest) e f =
    let r : Reach = f.1.0 in
    let found : reach_at reaches j ≡ Some r = f.1.1 in
    let parent : r.parent ≡ i = f.1.2 in
    let s = are.back j r found f.0 in
    let start : s.before ≡ q = some_same s.before q (sym s.found ∙ ap (reach_at reaches) parent ∙ e) in
    let edge : HasFreeEdge p i j = subst (λ k. HasFreeEdge p k j) parent s.edge in
    let more = follow_run p source reaches are j r rest found f.2 in
    record {
      runs = (edge, more.runs);
      reach = more.reach;
      found = more.found;
      total = omega (arith, more.total, s.delay, ap (λ (x : Reach). x.delay) start, sum_by-cons (delay_at p) j rest);
    }

pub record IsPathTo (p : Problem) (source end : ℕ) (reaches : List (Option Reach)) (path : List ℕ) : Type 0 where
  pub free : IsFreePath p path
  pub first : first_of path ≡ source
  pub last : last_of path ≡ end
  pub reach : Reach
  pub found : reach_at reaches end ≡ Some reach
  pub total : delay_along p path ≡ reach.delay

pub trail_path : (p : Problem) (source end : ℕ) (reaches : List (Option Reach)) (path : List ℕ) → AreReaches p source reaches → length reaches ≡ length p.ops
    → source < length p.ops → IsTrail reaches source source end path → IsPathTo p source end reaches path
trail_path p source end reaches [] are count inside t = absurd t
trail_path p source end reaches (i ∷ rest) are count inside t =
    let here : reach_at reaches i ≡ Some (record { delay = delay_at p source; parent = source }) = ap (reach_at reaches) t.0 ∙ are.start (omega arith) in
    let run = follow_run p source reaches are i (record { delay = delay_at p source; parent = source }) rest here t.2 in
    record {
      free = (omega (arith, t.0), run.runs);
      first = t.0;
      last = t.1;
      reach = run.reach;
      found = ap (reach_at reaches) (sym t.1) ∙ run.found;
      total = omega (arith, run.total, ap (delay_at p) t.0, sum_by-cons (delay_at p) i rest);
    }

-- ---- no path from the source has a greater delay
run_reached : (p : Problem) (source : ℕ) (reaches : List (Option Reach)) → IsValidProblem p → AreReaches p source reaches → length reaches ≡ length p.ops
    → (i : ℕ) (q : Reach) (rest : List ℕ) → source ≤ i → reach_at reaches i ≡ Some q → Runs p i rest
    → (r : Reach) × (reach_at reaches (last_after i rest) ≡ Some r) × (q.delay + sum_along p rest ≤ r.delay)
run_reached p source reaches valid are count i q [] low e runs = (q, e, omega arith)
run_reached p source reaches valid are count i q (j ∷ rest) low e runs =
    let forward = edge_forward p i j valid runs.0 in
    let differ : j ≢ source = λ same. absurd (omega arith) in
    let next = are.on i j q (omega arith) differ runs.0 e in
    let last = run_reached p source reaches valid are count j next.0 rest (omega arith) next.1 runs.1 in
    (last.0, last.1, omega (arith, last.2, next.2, sum_by-cons (delay_at p) j rest))

pub path_reached : (p : Problem) (source : ℕ) (reaches : List (Option Reach)) (path : List ℕ) → IsValidProblem p → AreReaches p source reaches
    → length reaches ≡ length p.ops → IsFreePath p path → first_of path ≡ source
    → (r : Reach) × (reach_at reaches (last_of path) ≡ Some r) × (delay_along p path ≤ r.delay)
path_reached p source reaches [] valid are count free first = absurd free
path_reached p source reaches (i ∷ rest) valid are count free first =
    let here : reach_at reaches i ≡ Some (record { delay = delay_at p source; parent = source }) = ap (reach_at reaches) first ∙ are.start (omega (arith, free.0)) in
    let last = run_reached p source reaches valid are count i (record { delay = delay_at p source; parent = source }) rest (omega arith) here free.1 in
    (last.0, last.1, omega (arith, last.2, ap (delay_at p) first, sum_by-cons (delay_at p) i rest))

-- ---- the trail grows at its start
pub trail_one : (reaches : List (Option Reach)) (source end : ℕ) → IsTrail reaches source end end (reverse (end ∷ []))
trail_one reaches source end = (refl, refl, tt)

grow : (reaches : List (Option Reach)) (source at before end : ℕ) (path : List ℕ) (r : Reach) → at ≢ source → reach_at reaches at ≡ Some r → r.parent ≡ before
    → IsTrail reaches source at end path → IsTrail reaches source before end (before ∷ path)
grow reaches source at before end [] r differ e parent t = absurd t
grow reaches source at before end (i ∷ rest) r differ e parent t =
    (refl, t.1, (λ same. differ (sym t.0 ∙ same), (r, ap (reach_at reaches) t.0 ∙ e, parent), t.2))

pub trail_more : (reaches : List (Option Reach)) (source at before end : ℕ) (path : List ℕ) (r : Reach) → at ≢ source → reach_at reaches at ≡ Some r → r.parent ≡ before
    → IsTrail reaches source at end (reverse path) → IsTrail reaches source before end (reverse (path ++ before ∷ []))
trail_more reaches source at before end path r differ e parent t =
    subst (IsTrail reaches source before end) (sym (reverse-append path (before ∷ []))) (grow reaches source at before end (reverse path) r differ e parent t)

-- ---- the operation before
parent_found : (result : ℕ) (o : Option Reach) → MatchOption o ⊥ (λ r. result ≡ r.parent) → (r : Reach) × (o ≡ Some r) × (result ≡ r.parent)
parent_found result None h = absurd h
parent_found result (Some r) h = (r, refl, h)

pub parent_less : (source at result : ℕ) (reaches : List (Option Reach)) → LeadBack source reaches → MatchOption (reach_at reaches at) ⊥ (λ r. result ≡ r.parent)
    → at ≢ source → result < at
parent_less source at result reaches back h differ =
    let found = parent_found result (reach_at reaches at) h in
    let lower = back at found.0 found.1 differ in
    omega (arith, lower.0, found.2)
