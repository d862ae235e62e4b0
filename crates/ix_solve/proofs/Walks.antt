-- The walk from the root by which a node was reached, and the way back.
use Rattle.std.proofs.Common.{◌≡◌, ℕ, ◌+◌, ◌≤◌, ◌<◌, List, [], ◌∷◌, ◌++◌, length, get_or, refl, sym, arith, reverse}
use Rattle.std.specs.Prelude.{All}
use Rattle.std.proofs.lemmas.List.{reverse-append}
use Rattle.std.proofs.lemmas.List.Elements.{All-cons, All-nil, All-push, All-head, All-tail}
use Rattle.std.proofs.lemmas.List.Sums.{sum_by-cons, sum_by_push}
use Rattle.ix_sheet.specs.declared.problem.Arc.{Arc}
use Rattle.ix_solve.specs.declared.search.Step.{Step}
use Rattle.ix_solve.specs.Search.{step_at, arc_at, Leads, ups, downs, IsClosed, HasReached}

-- a walk of the log ends where its step says; `back` has its places, last to first
pub record IsWalk (arcs : List Arc) (log : List Step) (v total k : ℕ) (back : List ℕ) : Type 0 where
  pub within : k < length log
  pub leads : Leads arcs (step_at log k).arc.to (reverse back) v
  pub sum : (step_at log k).reached + ups arcs (reverse back) ≡ total + downs arcs (reverse back)
  pub places : All (λ q. q < length arcs) (reverse back)

pub walk_more : (n source base cap : ℕ) (arcs : List Arc) (reach last : List ℕ) (log : List Step) (v total k : ℕ) (back : List ℕ) →
    HasReached n source base cap arcs reach last log → 0 < k → IsWalk arcs log v total k back →
    IsWalk arcs log v total (step_at log k).parent (back ++ (step_at log k).place ∷ [])
walk_more n source base cap arcs reach last log v total k back h pos w =
    let s = h.steps k pos w.within in
    let q = (step_at log k).place in
    let around : reverse (back ++ q ∷ []) ≡ q ∷ reverse back = reverse-append back (q ∷ []) in
    record {
      within = omega (arith, s.earlier, w.within);
      leads = rw (around, s.placed.1) (s.joined, w.leads);
      sum = rw (around, sum_by-cons (λ x. (arc_at arcs x).up) q (reverse back), sum_by-cons (λ x. (arc_at arcs x).down) q (reverse back), s.placed.1) (omega (arith, s.longer, w.sum));
      places = rw around (All-cons (λ x. x < length arcs) q (reverse back) s.placed.0 w.places);
    }

pub walk_start : (n source base cap : ℕ) (arcs : List Arc) (reach last : List ℕ) (log : List Step) (v : ℕ) → HasReached n source base cap arcs reach last log → v ≤ n →
    IsWalk arcs log v (get_or reach v 0) (get_or last v 0) []
walk_start n source base cap arcs reach last log v h b =
    let r = h.nodes v b in
    record { within = r.within; leads = r.ends; sum = omega (arith, r.same); places = All-nil (λ x. x < length arcs) }

pub walk_more_at : (n source base cap : ℕ) (arcs : List Arc) (reach last : List ℕ) (log : List Step) (v total k : ℕ) (back new : List ℕ) (s : Step) →
    HasReached n source base cap arcs reach last log → 0 < k → IsWalk arcs log v total k back → s ≡ step_at log k → new ≡ back ++ s.place ∷ [] →
    IsWalk arcs log v total s.parent new
walk_more_at n source base cap arcs reach last log v total k back new s h pos w es en =
    rw (en, es) (walk_more n source base cap arcs reach last log v total k back h pos w)

Leads-append : (arcs : List Arc) (a b c : ℕ) (xs ys : List ℕ) → Leads arcs a xs b → Leads arcs b ys c → Leads arcs a (xs ++ ys) c
Leads-append arcs a b c [] ys p q = rw p q
Leads-append arcs a b c (x ∷ xs) ys p q = (p.0, Leads-append arcs (arc_at arcs x).to b c xs ys p.1 q)

-- a walk from the root, and an arc back to it
pub back_at_root : (arcs : List Arc) (n v base reach : ℕ) (walk : List ℕ) (a : ℕ) → Leads arcs n walk v → ups arcs walk + base ≡ reach + downs arcs walk →
    All (λ x. x < length arcs) walk → a < length arcs → (arc_at arcs a).from ≡ v → (arc_at arcs a).to ≡ n → base + (arc_at arcs a).down < reach + (arc_at arcs a).up →
    IsClosed arcs (walk ++ a ∷ [])
back_at_root arcs n v base reach walk a leads sum within a_in from to more = record {
  within = All-push (λ x. x < length arcs) walk a within a_in;
  closed = (n, Leads-append arcs n v n walk (a ∷ []) leads (from, to));
  positive = rw (sum_by_push (λ x. (arc_at arcs x).up) walk a, sum_by_push (λ x. (arc_at arcs x).down) walk a) (omega arith);
}

-- a walk from the root, an arc, and one more arc back to it
pub back_late : (arcs : List Arc) (n v base reach : ℕ) (walk : List ℕ) (a b : ℕ) → Leads arcs n walk v → ups arcs walk + base ≡ reach + downs arcs walk →
    All (λ x. x < length arcs) walk → a < length arcs → b < length arcs → (arc_at arcs a).from ≡ v → (arc_at arcs b).from ≡ (arc_at arcs a).to → (arc_at arcs b).to ≡ n →
    base + (arc_at arcs b).down + (arc_at arcs a).down < reach + (arc_at arcs a).up + (arc_at arcs b).up → IsClosed arcs ((walk ++ a ∷ []) ++ b ∷ [])
back_late arcs n v base reach walk a b leads sum within a_in b_in from joined to more = record {
  within = All-push (λ x. x < length arcs) (walk ++ a ∷ []) b (All-push (λ x. x < length arcs) walk a within a_in) b_in;
  closed = (n, Leads-append arcs n (arc_at arcs a).to n (walk ++ a ∷ []) (b ∷ []) (Leads-append arcs n v (arc_at arcs a).to walk (a ∷ []) leads (from, refl)) (joined, to));
  positive = rw (sum_by_push (λ x. (arc_at arcs x).up) (walk ++ a ∷ []) b, sum_by_push (λ x. (arc_at arcs x).down) (walk ++ a ∷ []) b, sum_by_push (λ x. (arc_at arcs x).up) walk a, sum_by_push (λ x. (arc_at arcs x).down) walk a) (omega arith);
}

-- times that meet the arcs of a closed list show that its numbers do not sum to more than 0
along : (arcs : List Arc) (t : ℕ → ℕ) (a b : ℕ) (ks : List ℕ) → ((k : ℕ) → k < length arcs → t (arc_at arcs k).from + (arc_at arcs k).up ≤ t (arc_at arcs k).to + (arc_at arcs k).down) →
    All (λ x. x < length arcs) ks → Leads arcs a ks b → t a + ups arcs ks ≤ t b + downs arcs ks
along arcs t a b [] met within leads = rw leads (omega arith)
along arcs t a b (k ∷ ks) met within leads =
    rw (sum_by-cons (λ x. (arc_at arcs x).up) k ks, sum_by-cons (λ x. (arc_at arcs x).down) k ks, ← leads.0)
    (let first = met k (All-head (λ x. x < length arcs) k ks within) in
    let later = along arcs t (arc_at arcs k).to b ks met (All-tail (λ x. x < length arcs) k ks within) leads.1 in
    omega arith)

pub not_closed : (arcs : List Arc) (t : ℕ → ℕ) (ks : List ℕ) → ((k : ℕ) → k < length arcs → t (arc_at arcs k).from + (arc_at arcs k).up ≤ t (arc_at arcs k).to + (arc_at arcs k).down) →
    IsClosed arcs ks → ⊥
not_closed arcs t ks met bad =
    let sums = along arcs t bad.closed.0 bad.closed.0 ks met bad.within bad.closed.1 in
    omega (arith, bad.positive)

-- one arc from a node to itself
pub loop_closed : (arcs : List Arc) (k : ℕ) → k < length arcs → (arc_at arcs k).from ≡ (arc_at arcs k).to → (arc_at arcs k).down < (arc_at arcs k).up → IsClosed arcs (k ∷ [])
loop_closed arcs k b same more = record {
  within = All-cons (λ x. x < length arcs) k [] b (All-nil (λ x. x < length arcs));
  closed = ((arc_at arcs k).from, (refl, sym same));
  positive = omega arith;
}
