-- The first walks.
use Rattle.std.proofs.Common.{◌≡◌, ℕ, zero, suc, ◌≢◌, ◌+◌, ◌-◌, ◌≤◌, ◌<◌, List, [], ◌∷◌, ◌++◌, length, get_or, refl, sym, ◌∙◌, ap, arith, ◌⊎◌, inl, inr, length-append}
use Rattle.std.specs.Prelude.{All}
use Rattle.std.proofs.lemmas.List.{get_or_append_left, get_or_push}
use Rattle.ix_sheet.specs.declared.problem.Arc.{Arc}
use Rattle.ix_sheet.specs.Bounds.{Meets}
use Rattle.std.proofs.lemmas.List.Elements.{All-weaker}
use Rattle.ix_solve.specs.declared.search.Step.{Step}
use Rattle.ix_solve.specs.declared.search.TheConstants.{LIMIT}
use Rattle.ix_solve.specs.Search.{no_arc, arc_at, step_at, IsReached, HasReached, IsFramed, HasBegun, IsInside, AreLeast}
use Rattle.ix_solve.proofs.Steps.{step_old, step_new, keeps_step, least}

same_or_not : (v w : ℕ) → (v ≡ w) ⊎ (v ≢ w)
same_or_not v w = grind arith

lt_or_last : (k n : ℕ) → k < n + 1 → (k < n) ⊎ (k ≡ n)
lt_or_last k n h = grind arith

lt_or_gt : (j k : ℕ) → j ≢ k → (j < k) ⊎ (k < j)
lt_or_gt j k ne = grind arith

two_steps : (log : List Step) (j k : ℕ) → j ≢ k → j < length log → k < length log → (step_at log j).arc.to ≡ (step_at log k).arc.to →
    ((j k : ℕ) → j < k → k < length log → (step_at log j).arc.to ≢ (step_at log k).arc.to) → ⊥
two_steps log j k ne j_in k_in same apart = elim (lt_or_gt j k ne) [ inl lt ↦ apart j k lt k_in same | inr gt ↦ apart k j gt j_in (sym same) ]

to_in : (n source : ℕ) (log : List Step) (j : ℕ) → (step_at log 0).arc.to ≡ source → source ≤ n → ((k : ℕ) → 0 < k → k < length log → (step_at log k).arc.to ≤ n) → j < length log →
    (step_at log j).arc.to < n + 1
to_in n source log zero first source_in inside b = omega arith
to_in n source log (suc j) first source_in inside b = let i = inside (suc j) (omega arith) b in omega arith

-- one more node without a step of its own: the node i is reached by the step h
pub begun_known : (n source base cap hub at : ℕ) (arcs : List Arc) (i e : ℕ) (reach last : List ℕ) (log : List Step) (k : ℕ) →
    HasBegun n source base cap hub at arcs i e reach last log → e ≤ 1 → k < length log → (step_at log k).arc.to ≡ i → (step_at log k).reached ≤ cap →
    (source ≡ i → (step_at log k).reached ≡ base) →
    HasBegun n source base cap hub at arcs (i + 1) 0 (reach ++ (step_at log k).reached ∷ []) (last ++ k ∷ []) log
begun_known n source base cap hub at arcs i extra reach last log k h small k_in to fits is_source =
    let x = (step_at log k).reached in
    let new : get_or (reach ++ x ∷ []) i 0 ≡ x = get_or_push reach x 0 i h.reach_len in
    let new_last : get_or (last ++ k ∷ []) i 0 ≡ k = get_or_push last k 0 i h.last_len in
    let old : (v : ℕ) → v < i → get_or (reach ++ x ∷ []) v 0 ≡ get_or reach v 0 = λ v b. get_or_append_left reach (x ∷ []) 0 v (omega (arith, h.reach_len)) in
    let old_last : (v : ℕ) → v < i → get_or (last ++ k ∷ []) v 0 ≡ get_or last v 0 = λ v b. get_or_append_left last (k ∷ []) 0 v (omega (arith, h.last_len)) in
    record {
      reach_len = length-append reach (x ∷ []) ∙ ap (λ y. y + 1) h.reach_len;
      last_len = length-append last (k ∷ []) ∙ ap (λ y. y + 1) h.last_len;
      hub_in = h.hub_in;
      hub_to = h.hub_to;
      hub_at = h.hub_at;
      hub_low = h.hub_low;
      hub_source = h.hub_source;
      first_to = h.first_to;
      first_reached = h.first_reached;
      steps = h.steps;
      nodes = λ v b. elim (lt_or_last v i b) [
        | inl low ↦ (let r = h.nodes v low in record { within = rw (old_last v low) r.within; ends = rw (old_last v low) r.ends; same = rw (old_last v low, old v low) r.same })
        | inr e ↦ rw e (record { within = rw new_last k_in; ends = rw new_last to; same = rw (new_last, new) refl })
      ];
      root = λ b. elim (lt_or_last source i b) [
        | inl low ↦ rw (old source low) (h.root low)
        | inr e ↦ rw (e, new) (is_source e)
      ];
      low = λ v b. elim (lt_or_last v i b) [
        | inl low ↦ rw (old v low) (h.low v low)
        | inr e ↦ rw (e, new) fits
      ];
      top = λ j b to_in. elim (lt_or_last (step_at log j).arc.to i to_in) [
        | inl low ↦ rw (old (step_at log j).arc.to low) (h.top j b low)
        | inr e ↦ elim (same_or_not j k) [
          | inl same ↦ rw (e, new, same) (omega arith)
          | inr ne ↦ absurd (two_steps log j k ne b k_in (e ∙ sym to) h.apart)
        ]
      ];
      far = λ j b past. h.far j b (omega arith);
      apart = h.apart;
      inside = h.inside;
    }

pub begun_all : (n source base cap hub at : ℕ) (arcs : List Arc) (reach last : List ℕ) (log : List Step) → HasBegun n source base cap hub at arcs (n + 1) 0 reach last log → source ≤ n →
    HasReached n source base cap arcs reach last log
begun_all n source base cap hub at arcs reach last log h source_in = record {
  reach_len = h.reach_len;
  last_len = h.last_len;
  some = omega (arith, h.hub_in);
  first_to = h.first_to;
  first_reached = h.first_reached;
  steps = h.steps;
  nodes = λ v b. h.nodes v (omega arith);
  root = h.root (omega arith);
  low = λ v b. h.low v (omega arith);
  top = λ j b. h.top j b (to_in n source log j h.first_to source_in h.inside b);
  strict = λ j k before b same. absurd (h.apart j k before b same);
}

grown_reached : (reach last : List ℕ) (log : List Step) (s : Step) (v : ℕ) → IsReached reach last log v → IsReached reach last (log ++ s ∷ []) v
grown_reached reach last log s v is =
    let here = step_old log s (get_or last v 0) is.within in
    record { within = rw (length-append log (s ∷ [])) (omega (arith, is.within)); ends = rw here is.ends; same = rw here is.same }

not_there : (i to source n j hub : ℕ) (log : List Step) → i < n → i ≢ source → (step_at log 0).arc.to ≡ source → (step_at log hub).arc.to ≡ n →
    (j ≡ 0) ⊎ (j ≡ hub) → (step_at log j).arc.to ≢ i
not_there i to source n j hub log b ne first last which same = elim which [
  | inl e ↦ (let a : (step_at log j).arc.to ≡ (step_at log 0).arc.to = ap (λ q. (step_at log q).arc.to) e in omega arith)
  | inr e ↦ (let a : (step_at log j).arc.to ≡ (step_at log hub).arc.to = ap (λ q. (step_at log q).arc.to) e in omega arith)
]

lt_or_ge : (a b : ℕ) → (a < b) ⊎ (b ≤ a)
lt_or_ge a b = grind arith

-- a step to the node i, by its first arc
pub begun_more : (n source base cap hub at : ℕ) (arcs : List Arc) (i : ℕ) (reach last : List ℕ) (log : List Step) (a : Arc) (r : ℕ) →
    HasBegun n source base cap hub at arcs i 0 reach last log → IsFramed n arcs → i < n → i ≢ source → a ≡ arc_at arcs i → r ≡ at + a.up →
    HasBegun n source base cap hub at arcs i 1 reach last (log ++ record { arc = a; place = i; parent = hub; reached = r } ∷ [])
begun_more n source base cap hub at arcs i reach last log a r h framed b ne is er =
    let s : Step = record { arc = a; place = i; parent = hub; reached = r } in
    let early = framed.early i b in
    let old : (k : ℕ) → k < length log → step_at (log ++ s ∷ []) k ≡ step_at log k = step_old log s in
    let at_end = step_new log s in
    let some : 0 < length log = omega (arith, h.hub_in) in
    let grown : length (log ++ s ∷ []) ≡ length log + 1 = length-append log (s ∷ []) in
    let to : a.to ≡ i = ap (λ (x : Arc). x.to) is ∙ early.1 in
    let from : a.from ≡ n = ap (λ (x : Arc). x.from) is ∙ early.0 in
    let down : a.down ≡ 0 = ap (λ (x : Arc). x.down) is ∙ early.3 in
    let in_arcs : i < length arcs = omega (arith, framed.enough) in
    let fresh : (j : ℕ) → j < length log → (step_at log j).arc.to ≢ i
    = λ j j_in. elim (lt_or_ge (step_at log j).arc.to i) [
      | inl low ↦ (λ same. omega arith)
      | inr high ↦ not_there i i source n j hub log b ne h.first_to h.hub_to (h.far j j_in (omega arith))
    ] in
    record {
      reach_len = h.reach_len;
      last_len = h.last_len;
      hub_in = omega (arith, h.hub_in);
      hub_to = rw (old hub h.hub_in) h.hub_to;
      hub_at = rw (old hub h.hub_in) h.hub_at;
      hub_low = h.hub_low;
      hub_source = h.hub_source;
      first_to = rw (old 0 some) h.first_to;
      first_reached = rw (old 0 some) h.first_reached;
      steps = λ k pos k_in. elim (lt_or_last k (length log) (omega arith)) [
        | inl low ↦ keeps_step arcs log s k low (h.steps k pos low)
        | inr e ↦ rw e (record {
          earlier = rw at_end h.hub_in;
          joined = rw (at_end, old hub h.hub_in) (from ∙ sym h.hub_to);
          longer = rw (at_end, old hub h.hub_in) (omega (arith, h.hub_at));
          placed = rw at_end (in_arcs, sym is);
        })
      ];
      nodes = λ v v_in. grown_reached reach last log s v (h.nodes v v_in);
      root = h.root;
      low = h.low;
      top = λ j j_in. elim (lt_or_last j (length log) (omega arith)) [
        | inl low ↦ rw (old j low) (h.top j low)
        | inr e ↦ rw (e, at_end) (λ below. absurd (omega arith))
      ];
      far = λ j j_in. elim (lt_or_last j (length log) (omega arith)) [
        | inl low ↦ rw (old j low) (λ past. h.far j low (omega arith))
        | inr e ↦ rw (e, at_end) (λ past. absurd (omega arith))
      ];
      apart = λ j k before k_in. elim (lt_or_last k (length log) (omega arith)) [
        | inl low ↦ (let j_old : j < length log = omega arith in rw (old j j_old, old k low) (h.apart j k before low))
        | inr e ↦ (let j_old : j < length log = omega arith in rw (e, at_end, old j j_old) (λ same. fresh j j_old (same ∙ to)))
      ];
      inside = λ k pos k_in. elim (lt_or_last k (length log) (omega arith)) [
        | inl low ↦ rw (old k low) (h.inside k pos low)
        | inr e ↦ rw (e, at_end) (omega arith)
      ];
    }

-- the next operation by its first arc
pub begun_next : (n source base cap hub at : ℕ) (arcs : List Arc) (i : ℕ) (reach last : List ℕ) (log new_log : List Step) (new_reach new_last : List ℕ) (a : Arc) (k r : ℕ) →
    HasBegun n source base cap hub at arcs i 0 reach last log → IsFramed n arcs → i < n → i ≢ source → a ≡ arc_at arcs i → r ≡ at + a.up → base + LIMIT ≤ cap →
    k ≡ length log → new_log ≡ log ++ record { arc = a; place = i; parent = hub; reached = r } ∷ [] → new_reach ≡ reach ++ r ∷ [] → new_last ≡ last ++ k ∷ [] →
    HasBegun n source base cap hub at arcs (i + 1) 0 new_reach new_last new_log
begun_next n source base cap hub at arcs i reach last log new_log new_reach new_last a k r h framed b ne is er room ek eg ere ela =
    let s : Step = record { arc = a; place = i; parent = hub; reached = r } in
    let m = begun_more n source base cap hub at arcs i reach last log a r h framed b ne is er in
    let at_end = step_new log s in
    let early = framed.early i b in
    let up : a.up ≤ LIMIT = rw is early.2 in
    let to : a.to ≡ i = ap (λ (x : Arc). x.to) is ∙ early.1 in
    let grown : length (log ++ s ∷ []) ≡ length log + 1 = length-append log (s ∷ []) in
    let low = h.hub_low in
    let same : (step_at (log ++ s ∷ []) (length log)).reached ≡ r = ap (λ (x : Step). x.reached) at_end in
    let k2 = begun_known n source base cap hub at arcs i 1 reach last (log ++ s ∷ []) (length log) m (omega arith) (omega arith)
    (rw at_end to) (rw at_end (omega arith)) (λ e. absurd (ne (sym e))) in
    let k3 : HasBegun n source base cap hub at arcs (i + 1) 0 (reach ++ r ∷ []) (last ++ length log ∷ []) (log ++ s ∷ []) = rw same at k2 in
    rw (eg, ere, ela, ek) k3

-- the source itself
pub begun_source : (n source base cap hub at : ℕ) (arcs : List Arc) (reach last : List ℕ) (log : List Step) (new_reach new_last : List ℕ) →
    HasBegun n source base cap hub at arcs source 0 reach last log → base ≤ cap → new_reach ≡ reach ++ base ∷ [] → new_last ≡ last ++ 0 ∷ [] →
    HasBegun n source base cap hub at arcs (source + 1) 0 new_reach new_last log
begun_source n source base cap hub at arcs reach last log new_reach new_last h room er el =
    let k2 = begun_known n source base cap hub at arcs source 0 reach last log 0 h (omega arith) (omega (arith, h.hub_in)) h.first_to (omega (arith, h.first_reached)) (λ _. h.first_reached) in
    let k3 : HasBegun n source base cap hub at arcs (source + 1) 0 (reach ++ base ∷ []) (last ++ 0 ∷ []) log = rw h.first_reached at k2 in
    rw (er, el) k3

-- the root, last of all
pub begun_root : (n source base cap hub at : ℕ) (arcs : List Arc) (reach last : List ℕ) (log : List Step) (new_reach new_last : List ℕ) →
    HasBegun n source base cap hub at arcs n 0 reach last log → source ≤ n → base ≤ cap → new_reach ≡ reach ++ at ∷ [] → new_last ≡ last ++ hub ∷ [] →
    HasReached n source base cap arcs new_reach new_last log
begun_root n source base cap hub at arcs reach last log new_reach new_last h source_in room er el =
    let low = h.hub_low in
    let k2 = begun_known n source base cap hub at arcs n 0 reach last log hub h (omega arith) h.hub_in h.hub_to (omega (arith, h.hub_at))
    (λ e. (let z : (step_at log hub).reached ≡ (step_at log 0).reached = ap (λ q. (step_at log q).reached) (h.hub_source e) in omega (arith, h.first_reached))) in
    let k3 : HasBegun n source base cap hub at arcs (n + 1) 0 (reach ++ at ∷ []) (last ++ hub ∷ []) log = rw h.hub_at at k2 in
    rw (er, el) (begun_all n source base cap hub at arcs (reach ++ at ∷ []) (last ++ hub ∷ []) log k3 source_in)

none_or_one : (j : ℕ) → j < 2 → (j ≡ 0) ⊎ (j ≡ 1)
none_or_one j h = grind arith

-- the source, and the step from it to the root
pub begun_two : (n source : ℕ) (arcs : List Arc) (a first : Arc) → IsFramed n arcs → source < n → a ≡ arc_at arcs (n + source) → first.to ≡ source →
    HasBegun n source 255 510 1 (255 - a.down) arcs 0 0 [] []
    (record { arc = first; place = 0; parent = 0; reached = 255 } ∷ record { arc = a; place = n + source; parent = 0; reached = 255 - a.down } ∷ [])
begun_two n source arcs a first framed b is to0 =
    let s0 : Step = record { arc = first; place = 0; parent = 0; reached = 255 } in
    let s1 : Step = record { arc = a; place = n + source; parent = 0; reached = 255 - a.down } in
    let late = framed.late source b in
    let from : a.from ≡ source = ap (λ (x : Arc). x.from) is ∙ late.0 in
    let to : a.to ≡ n = ap (λ (x : Arc). x.to) is ∙ late.1 in
    let up : a.up ≡ 0 = ap (λ (x : Arc). x.up) is ∙ late.2 in
    let down : a.down ≤ 255 = rw is late.3 in
    let in_arcs : n + source < length arcs = omega (arith, framed.enough) in
    record {
      reach_len = refl;
      last_len = refl;
      hub_in = omega arith;
      hub_to = to;
      hub_at = refl;
      hub_low = omega arith;
      hub_source = λ e. absurd (omega arith);
      first_to = to0;
      first_reached = refl;
      steps = λ k pos k_in. (let e : k ≡ 1 = omega arith in rw e (record {
        earlier = omega arith;
        joined = from ∙ sym to0;
        longer = omega arith;
        placed = (in_arcs, sym is);
      }));
      nodes = λ v v_in. absurd (omega arith);
      root = λ v_in. absurd (omega arith);
      low = λ v v_in. absurd (omega arith);
      top = λ j j_in below. absurd (omega arith);
      far = λ j j_in past. none_or_one j j_in;
      apart = λ j k before k_in. (let e : j ≡ 0 = omega arith in let e2 : k ≡ 1 = omega arith in rw (e, e2) (λ same. omega arith));
      inside = λ k pos k_in. (let e : k ≡ 1 = omega arith in rw e (omega arith));
    }

-- no node is below the root, and none more than the limit above it
pub above_root : (n : ℕ) (arcs : List Arc) (t : ℕ → ℕ) → IsFramed n arcs → All (Meets t) arcs → (v : ℕ) → v ≤ n → (t n ≤ t v) × (t v ≤ t n + LIMIT)
above_root n arcs t framed met v b =
    elim (lt_or_ge v n) [
      | inl low ↦
          (let e = framed.early v low in
          let l = framed.late v low in
          let m : Meets t (arc_at arcs v) = met v no_arc (omega (arith, framed.enough)) in
          let k : Meets t (arc_at arcs (n + v)) = met (n + v) no_arc (omega (arith, framed.enough)) in
          let a = ap t e.0 in
          let c = ap t e.1 in
          let d = ap t l.0 in
          let f = ap t l.1 in
          (omega (arith, e.3), omega (arith, l.2, l.3)))
      | inr high ↦ (let e : t v ≡ t n = ap t (omega arith) in (omega arith, omega arith))
    ]

-- times told from the root keep what is met
pub met_from_root : (n : ℕ) (reach times : List ℕ) (arcs : List Arc) → All (IsInside n) arcs →
    ((v : ℕ) → v ≤ n → get_or times v 0 + get_or reach n 0 ≡ get_or reach v 0) → All (Meets (λ v. get_or reach v 0)) arcs → All (Meets (λ v. get_or times v 0)) arcs
met_from_root n reach times arcs inside each met k d b =
    let i = inside k d b in
    let m = met k d b in
    let f = each (get_or arcs k d).from i.0 in
    let t = each (get_or arcs k d).to i.1 in
    omega arith

-- walks from the root that meet all arcs reach the least times
pub least_times : (n base cap : ℕ) (arcs : List Arc) (reach last times : List ℕ) (log : List Step) → HasReached n n base cap arcs reach last log → IsFramed n arcs →
    All (Meets (λ v. get_or reach v 0)) arcs → length times ≡ n + 1 → ((v : ℕ) → v ≤ n → get_or times v 0 + get_or reach n 0 ≡ get_or reach v 0) → AreLeast n arcs times
least_times n base cap arcs reach last times log h framed met len each = record {
  len = len;
  root = (let e = each n (omega arith) in omega arith);
  met = met_from_root n reach times arcs framed.inside each met;
  least = λ t all zero_root v b.
      (let up : All (Meets (λ q. t q + base)) arcs = All-weaker (Meets t) (Meets (λ q. t q + base)) (λ a m. omega arith) arcs all in
      let l = least n n base cap arcs reach last log h (λ q. t q + base) up (omega arith) v b in
      let e = each v b in
      let r = h.root in
      omega arith);
}
