-- Steps of a log.
use Rattle.std.proofs.Common.{◌≡◌, ℕ, zero, suc, ◌+◌, ◌≤◌, ◌<◌, ◌≢◌, List, [], ◌∷◌, ◌++◌, length, get_or, set, refl, sym, ◌∙◌, ap, arith, ◌⊎◌, inl, inr, length-append, length-set}
use Rattle.std.specs.Prelude.{sum, All, Contains}
use Rattle.std.proofs.lemmas.List.{get_or_default, get_or_append_left, get_or_push, get_or-set_same, get_or-set_other}
use Rattle.std.proofs.lemmas.List.Elements.{All-contains}
use Rattle.ix_sheet.specs.declared.problem.Arc.{Arc}
use Rattle.ix_sheet.specs.Bounds.{Meets}
use Rattle.ix_solve.specs.declared.search.Step.{Step}
use Rattle.ix_solve.specs.Search.{no_arc, no_step, step_at, arc_at, IsStep, IsReached, HasReached}

pub step_old : (log : List Step) (s : Step) (k : ℕ) → k < length log → step_at (log ++ s ∷ []) k ≡ step_at log k
step_old log s k h = get_or_append_left log (s ∷ []) no_step k h

pub step_new : (log : List Step) (s : Step) → step_at (log ++ s ∷ []) (length log) ≡ s
step_new log s = get_or_push log s no_step (length log) refl

pub keeps_step : (arcs : List Arc) (log : List Step) (s : Step) (k : ℕ) → k < length log → IsStep arcs log k → IsStep arcs (log ++ s ∷ []) k
keeps_step arcs log s k h is =
    let here = step_old log s k h in
    let before : (step_at log k).parent < length log = omega (arith, is.earlier) in
    let there = step_old log s (step_at log k).parent before in
    record {
      earlier = rw here is.earlier;
      joined = rw (here, there) is.joined;
      longer = rw (here, there) is.longer;
      placed = rw here is.placed;
    }

keeps_reached : (reach last : List ℕ) (log : List Step) (s : Step) (w r v : ℕ) → v ≢ w → IsReached reach last log v →
    IsReached (set reach w r) (set last w (length log)) (log ++ s ∷ []) v
keeps_reached reach last log s w r v ne is =
    let l = get_or-set_other last w v (length log) 0 ne in
    let e = get_or-set_other reach w v r 0 ne in
    let here = step_old log s (get_or last v 0) is.within in
    record {
      within = rw (l, length-append log (s ∷ [])) (omega (arith, is.within));
      ends = rw (l, here) is.ends;
      same = rw (l, here, e) is.same;
    }

new_reached : (reach last : List ℕ) (log : List Step) (s : Step) (w : ℕ) → w < length reach → w < length last → s.arc.to ≡ w →
    IsReached (set reach w s.reached) (set last w (length log)) (log ++ s ∷ []) w
new_reached reach last log s w hr hl to =
    let l = get_or-set_same last w (length log) 0 hl in
    let e = get_or-set_same reach w s.reached 0 hr in
    let here = step_new log s in
    record {
      within = rw (l, length-append log (s ∷ [])) (omega arith);
      ends = rw (l, here) to;
      same = rw (l, here, e) refl;
    }

same_or_not : (v w : ℕ) → (v ≡ w) ⊎ (v ≢ w)
same_or_not v w = grind arith

lt_or_last : (k n : ℕ) → k < n + 1 → (k < n) ⊎ (k ≡ n)
lt_or_last k n h = grind arith

pub placed_one : (arcs : List Arc) (place : ℕ) (arc : Arc) → (place < length arcs) × (arc_at arcs place ≡ arc) → Contains arcs arc
placed_one arcs place arc p = (place, p.0, get_or_default arcs place arc no_arc p.0 ∙ p.1)

-- the arc of a step is one of the arcs
pub step_one : (arcs : List Arc) (log : List Step) (k : ℕ) → IsStep arcs log k → Contains arcs (step_at log k).arc
step_one arcs log k s = placed_one arcs (step_at log k).place (step_at log k).arc s.placed

-- the search after one more arc is followed
pub raised : (n source base cap : ℕ) (arcs : List Arc) (reach last : List ℕ) (log : List Step) (arc : Arc) (place r : ℕ) →
    HasReached n source base cap arcs reach last log → arc.from ≤ n → arc.to ≤ n → arc.to ≢ source → (place < length arcs) × (arc_at arcs place ≡ arc) →
    r + arc.down ≡ get_or reach arc.from 0 + arc.up → get_or reach arc.to 0 < r → r ≤ cap →
    HasReached n source base cap arcs (set reach arc.to r) (set last arc.to (length log)) (log ++ record { arc = arc; place = place; parent = get_or last arc.from 0; reached = r } ∷ [])
raised n source base cap arcs reach last log arc place r h from to ne_source placed sum up low =
    let s : Step = record { arc = arc; place = place; parent = get_or last arc.from 0; reached = r } in
    let origin = h.nodes arc.from from in
    let zeroth = step_old log s 0 h.some in
    let at_end = step_new log s in
    let at_source = step_old log s (get_or last arc.from 0) origin.within in
    let in_reach : arc.to < length reach = omega (arith, h.reach_len) in
    let in_last : arc.to < length last = omega (arith, h.last_len) in
    let grown : length (log ++ s ∷ []) ≡ length log + 1 = length-append log (s ∷ []) in
    let each : (P : ℕ → ℕ → Type 0) → P arc.to r → ((v : ℕ) → v ≤ n → P v (get_or reach v 0)) → (v : ℕ) → v ≤ n → P v (get_or (set reach arc.to r) v 0)
    = λ P new old v b. elim (same_or_not v arc.to) [
      | inl e ↦ rw (e, get_or-set_same reach arc.to r 0 in_reach) new
      | inr ne ↦ rw (get_or-set_other reach arc.to v r 0 ne) (old v b)
    ] in
    let risen : (v : ℕ) → get_or reach v 0 ≤ get_or (set reach arc.to r) v 0
    = λ v. elim (same_or_not v arc.to) [
      | inl e ↦ rw (e, get_or-set_same reach arc.to r 0 in_reach) (omega arith)
      | inr ne ↦ rw (get_or-set_other reach arc.to v r 0 ne) (omega arith)
    ] in
    record {
      reach_len = length-set reach arc.to r ∙ h.reach_len;
      last_len = length-set last arc.to (length log) ∙ h.last_len;
      some = omega arith;
      first_to = rw zeroth h.first_to;
      first_reached = rw zeroth h.first_reached;
      steps = λ k pos b. elim (lt_or_last k (length log) (omega arith)) [
        | inl old ↦ keeps_step arcs log s k old (h.steps k pos old)
        | inr e ↦ rw e (record {
          earlier = rw at_end origin.within;
          joined = rw (at_end, at_source) (sym origin.ends);
          longer = rw (at_end, at_source) (sum ∙ ap (λ x. x + arc.up) (sym origin.same));
          placed = rw at_end placed;
        })
      ];
      nodes = λ v b. elim (same_or_not v arc.to) [
        | inl e ↦ rw e (new_reached reach last log s arc.to in_reach in_last refl)
        | inr ne ↦ keeps_reached reach last log s arc.to r v ne (h.nodes v b)
      ];
      root = rw (get_or-set_other reach arc.to source r 0 (λ e. ne_source (sym e))) h.root;
      low = each (λ _ x. x ≤ cap) low h.low;
      top = λ j b. elim (lt_or_last j (length log) (omega arith)) [
        | inl old ↦ rw (step_old log s j old) (omega (arith, h.top j old, risen (step_at log j).arc.to))
        | inr e ↦ rw (e, at_end, get_or-set_same reach arc.to r 0 in_reach) (omega arith)
      ];
      strict = λ j k before b. elim (lt_or_last k (length log) (omega arith)) [
        | inl old ↦ (let j_old : j < length log = omega arith in rw (step_old log s j j_old, step_old log s k old) (h.strict j k before old))
        | inr e ↦
            (let j_old : j < length log = omega arith in
            rw (e, at_end, step_old log s j j_old)
            (λ same. let t = h.top j j_old in let a : get_or reach (step_at log j).arc.to 0 ≡ get_or reach arc.to 0 = ap (λ v. get_or reach v 0) same in omega arith))
      ];
    }

pub raised_at : (n source base cap : ℕ) (arcs : List Arc) (reach last : List ℕ) (log new : List Step) (arc : Arc) (place k p r : ℕ) →
    HasReached n source base cap arcs reach last log → arc.from ≤ n → arc.to ≤ n → arc.to ≢ source → (place < length arcs) × (arc_at arcs place ≡ arc) →
    r + arc.down ≡ get_or reach arc.from 0 + arc.up → get_or reach arc.to 0 < r → r ≤ cap →
    k ≡ length log → p ≡ get_or last arc.from 0 → new ≡ log ++ record { arc = arc; place = place; parent = p; reached = r } ∷ [] →
    HasReached n source base cap arcs (set reach arc.to r) (set last arc.to k) new
raised_at n source base cap arcs reach last log new arc place k p r h from to ne placed sum up low ek ep en =
    rw (en, ek, ep) (raised n source base cap arcs reach last log arc place r h from to ne placed sum up low)

-- no walk is longer than times that meet the arcs allow
least_below : (n source base cap : ℕ) (arcs : List Arc) (reach last : List ℕ) (log : List Step) → HasReached n source base cap arcs reach last log →
    (t : ℕ → ℕ) → All (Meets t) arcs → base ≤ t source → (m k : ℕ) → k < m → k < length log → (step_at log k).reached ≤ t (step_at log k).arc.to
least_below n source base cap arcs reach last log h t met origin zero k lt b = absurd (omega arith)
least_below n source base cap arcs reach last log h t met origin (suc m) zero lt b =
    let e : t (step_at log 0).arc.to ≡ t source = ap t h.first_to in omega (arith, h.first_reached)
least_below n source base cap arcs reach last log h t met origin (suc m) (suc k) lt b =
    let s = h.steps (suc k) (omega arith) b in
    let p = (step_at log (suc k)).parent in
    let before = least_below n source base cap arcs reach last log h t met origin m p (omega (arith, s.earlier)) (omega (arith, s.earlier)) in
    let a = (step_at log (suc k)).arc in
    let m : Meets t a = All-contains (Meets t) arcs a met (step_one arcs log (suc k) s) in
    let e : t a.from ≡ t (step_at log p).arc.to = ap t s.joined in
    omega (arith, s.longer)

pub least : (n source base cap : ℕ) (arcs : List Arc) (reach last : List ℕ) (log : List Step) → HasReached n source base cap arcs reach last log →
    (t : ℕ → ℕ) → All (Meets t) arcs → base ≤ t source → (v : ℕ) → v ≤ n → get_or reach v 0 ≤ t v
least n source base cap arcs reach last log h t met origin v b =
    let r = h.nodes v b in
    let k = get_or last v 0 in
    let w = least_below n source base cap arcs reach last log h t met origin (k + 1) k (omega arith) r.within in
    let e : t (step_at log k).arc.to ≡ t v = ap t r.ends in
    omega (arith, r.same)

pub pushed_reached : (reach last : List ℕ) (log : List Step) (s : Step) (x y v : ℕ) → v < length reach → v < length last → IsReached reach last log v →
    IsReached (reach ++ x ∷ []) (last ++ y ∷ []) (log ++ s ∷ []) v
pushed_reached reach last log s x y v hr hl is =
    let l = get_or_append_left last (y ∷ []) 0 v hl in
    let e = get_or_append_left reach (x ∷ []) 0 v hr in
    let here = step_old log s (get_or last v 0) is.within in
    record {
      within = rw (l, length-append log (s ∷ [])) (omega (arith, is.within));
      ends = rw (l, here) is.ends;
      same = rw (l, here, e) is.same;
    }
