-- Whether times are legal is decided, and depends on the times of the operations alone.
use Rattle.std.proofs.Common.{◌≡◌, ℕ, zero, suc, ◌+◌, ◌≤◌, ◌<◌, List, [], ◌∷◌, length, get_or, refl, sym, ◌∙◌, arith, ◌⊎◌, inl, inr}
use Rattle.std.specs.Prelude.{All, Contains}
use Rattle.std.proofs.lemmas.List.Elements.{All-cons, All-head, All-tail, All-contains, All-contains_itself, All-weaker}
use Rattle.std.proofs.lemmas.List.Sums.{sum_by-cons}
use Rattle.ix_sheet.specs.declared.problem.Problem.{Problem}
use Rattle.ix_sheet.specs.Schedules.{node_at, IsValidProblem, IsForward, Runs, delay_along, KeepsPeriod, IsInWindow, IsAfter, IsLegal, kept_along, cost}
use Rattle.ix_sheet.specs.Bounds.{arc_of, rooted, MeetsBound}
use Rattle.ix_sheet.proofs.BoundLemmas.{ends_inside, legal_is_bounds}
use Rattle.ix_sheet.proofs.Rooted.{rooted_below, rooted_root}
use Rattle.ix_sheet.proofs.Sums.{below-same, sum_by-same_each}
use Rattle.schedule_laws.proofs.Deciding.{Decided, decide_le, decide_same, decide_both, decide_if, decide_each, decide_below}

-- the delays along each way on, of at most m operations within the time x, come to at most the period with d before
abbrev Keeps : Problem → (ℕ → ℕ) → ℕ → ℕ → ℕ → ℕ → Type 0
Keeps p t x m i d = (rest : List ℕ) → length rest ≤ m → Runs p i rest → All (λ k. t k ≡ x) rest → d + delay_along p rest ≤ p.period

-- .. by one edge more
abbrev KeepsOn : Problem → (ℕ → ℕ) → ℕ → ℕ → ℕ → ℕ → ℕ × ℕ → Type 0
KeepsOn p t x m i d e = (e.0 ≡ i) → ((node_at p i).latency ≡ 0) → (t e.1 ≡ x) → Keeps p t x m e.1 (d + (node_at p e.1).delay)

keeps_none : (p : Problem) (t : ℕ → ℕ) (x i d : ℕ) → d ≤ p.period → Keeps p t x 0 i d
keeps_none p t x i d le [] b runs all = omega arith
keeps_none p t x i d le (j ∷ rest) b runs all = absurd (omega arith)

keeps_more : (p : Problem) (t : ℕ → ℕ) (x m i d : ℕ) → d ≤ p.period → All (KeepsOn p t x m i d) p.edges → Keeps p t x (suc m) i d
keeps_more p t x m i d le on [] b runs all = omega arith
keeps_more p t x m i d le on (j ∷ rest) b runs all =
    let here : KeepsOn p t x m i d (i, j) = All-contains (KeepsOn p t x m i d) p.edges (i, j) on runs.0.0 in
    let later = here refl runs.0.1 (All-head (λ k. t k ≡ x) j rest all) rest (omega arith) runs.1 (All-tail (λ k. t k ≡ x) j rest all) in
    rw (sum_by-cons (λ k. (node_at p k).delay) j rest) (omega arith)

same_pair : (e : ℕ × ℕ) (i : ℕ) → e.0 ≡ i → ◌≡◌ {A = ℕ × ℕ} e (i, e.1)
same_pair e i h = rw (← h) refl

keeps_on : (p : Problem) (t : ℕ → ℕ) (x m i d : ℕ) → Keeps p t x (suc m) i d → All (KeepsOn p t x m i d) p.edges
keeps_on p t x m i d keeps = All-weaker (Contains p.edges) (KeepsOn p t x m i d)
    (λ e member from latency at rest b runs all.
    let is : Contains p.edges (i, e.1) = rw (same_pair e i from) at member in
    let whole = keeps (e.1 ∷ rest) (omega arith) ((is, latency), runs) (All-cons (λ k. t k ≡ x) e.1 rest at all) in
    let sum = sum_by-cons (λ k. (node_at p k).delay) e.1 rest in
    omega arith)
    p.edges (All-contains_itself p.edges)

decide_keeps : (p : Problem) (t : ℕ → ℕ) (x m i d : ℕ) → Decided (Keeps p t x m i d)
decide_keeps p t x zero i d =
    elim (decide_le d p.period) [
      | inl le ↦ inl (keeps_none p t x i d le)
      | inr no_le ↦ inr (λ keeps. no_le (let e = keeps [] (omega arith) tt (λ k q b. absurd (omega arith)) in omega arith))
    ]
decide_keeps p t x (suc m) i d =
    elim (decide_le d p.period) [
      | inl le ↦
          elim (decide_each (KeepsOn p t x m i d)
          (λ e. decide_if (decide_same e.0 i) (decide_if (decide_same (node_at p i).latency 0) (decide_if (decide_same (t e.1) x) (decide_keeps p t x m e.1 (d + (node_at p e.1).delay)))))
          p.edges) [
            | inl on ↦ inl (keeps_more p t x m i d le on)
            | inr no_on ↦ inr (λ keeps. no_on (keeps_on p t x m i d keeps))
          ]
      | inr no_le ↦ inr (λ keeps. no_le (let e = keeps [] (omega arith) tt (λ k q b. absurd (omega arith)) in omega arith))
    ]

-- a path along edges has no more operations than there are
run_short : (p : Problem) (i : ℕ) (rest : List ℕ) → IsValidProblem p → i < length p.ops → Runs p i rest → i + length rest < length p.ops
run_short p i [] valid b runs = omega arith
run_short p i (j ∷ rest) valid b runs =
    let f : IsForward p (i, j) = All-contains (IsForward p) p.edges (i, j) valid.forward runs.0.0 in
    let later = run_short p j rest valid f.1 runs.1 in
    omega arith

abbrev KeepsFrom : Problem → (ℕ → ℕ) → ℕ → Type 0
KeepsFrom p t i = Keeps p t (t i) (length p.ops) i (node_at p i).delay

period_kept : (p : Problem) (t : ℕ → ℕ) → IsValidProblem p → ((i : ℕ) → i < length p.ops → KeepsFrom p t i) → KeepsPeriod p t
period_kept p t valid from [] free all = absurd free
period_kept p t valid from (i ∷ rest) free all =
    let short = run_short p i rest valid free.0 free.1 in
    let e = from i free.0 rest (omega arith) free.1 (All-tail (λ k. t k ≡ t i) i rest all) in
    rw (sum_by-cons (λ k. (node_at p k).delay) i rest) e

period_from : (p : Problem) (t : ℕ → ℕ) → KeepsPeriod p t → (i : ℕ) → i < length p.ops → KeepsFrom p t i
period_from p t keeps i b rest short runs all =
    let e = keeps (i ∷ rest) (b, runs) (All-cons (λ k. t k ≡ t i) i rest refl all) in
    let sum = sum_by-cons (λ k. (node_at p k).delay) i rest in
    omega arith

pub decide_legal : (p : Problem) (t : ℕ → ℕ) → IsValidProblem p → Decided (IsLegal p t)
decide_legal p t valid =
    elim (decide_below (λ k. IsInWindow (node_at p k) (t k)) (λ k. decide_both (decide_le (node_at p k).early (t k)) (decide_le (t k) (node_at p k).late)) (length p.ops)) [
      | inr no_windows ↦ inr (λ h. no_windows h.windows)
      | inl windows ↦
          elim (decide_each (IsAfter p t) (λ e. decide_le (t e.0 + (node_at p e.0).latency) (t e.1)) p.edges) [
            | inr no_edges ↦ inr (λ h. no_edges h.edges)
            | inl edges ↦
                elim (decide_below (KeepsFrom p t) (λ i. decide_keeps p t (t i) (length p.ops) i (node_at p i).delay) (length p.ops)) [
                  | inr no_period ↦ inr (λ h. no_period (period_from p t h.period))
                  | inl period ↦ inl (record { windows = windows; edges = edges; period = period_kept p t valid period })
                ]
          ]
    ]

-- times that are the same for each operation
abbrev pub AreSame : Problem → (ℕ → ℕ) → (ℕ → ℕ) → Type 0
AreSame p t u = (k : ℕ) → k < length p.ops → t k ≡ u k

below_or_not : (k n : ℕ) → (k < n) ⊎ (n ≤ k)
below_or_not k n = grind arith

rooted_same : (p : Problem) (t u : ℕ → ℕ) → AreSame p t u → (k : ℕ) → k ≤ length p.ops → rooted p t k ≡ rooted p u k
rooted_same p t u same k b =
    elim (below_or_not k (length p.ops)) [
      | inl low ↦ rooted_below p t k low ∙ same k low ∙ sym (rooted_below p u k low)
      | inr high ↦ (let e : k ≡ length p.ops = omega arith in rw (e, rooted_root p t, rooted_root p u) refl)
    ]

pub legal_same : (p : Problem) (t u : ℕ → ℕ) → IsValidProblem p → AreSame p t u → IsLegal p t → IsLegal p u
legal_same p t u valid same legal =
    let met = (legal_is_bounds p valid t).met legal in
    (legal_is_bounds p valid u).legal
    (λ bound of.
    let ends = ends_inside p valid bound of in
    let here : MeetsBound p t bound = met bound of in
    rw (rooted_same p t u same (arc_of p bound).from ends.0, rooted_same p t u same (arc_of p bound).to ends.1) at here)

pub cost_same : (p : Problem) (t u : ℕ → ℕ) → IsValidProblem p → AreSame p t u → cost p t ≡ cost p u
cost_same p t u valid same =
    let n = length p.ops in
    let times = below-same t u n same in
    let kept = sum_by-same_each (kept_along p t) (kept_along p u) p.edges
    (λ k d b.
    let f = valid.forward k d b in
    let from = same (slice_at p k d).0 (omega arith) in
    let to = same (slice_at p k d).1 f.1 in
    rw (from, to) refl) in
    omega arith
  where
    slice_at : (p : Problem) (k : ℕ) (d : ℕ × ℕ) → ℕ × ℕ
    slice_at p k d = get_or p.edges k d
