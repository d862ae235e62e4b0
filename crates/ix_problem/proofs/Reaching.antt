-- One more operation is reached.
use Rattle.std.proofs.Common.{◌≡◌, ◌≢◌, ℕ, ◌+◌, ◌*◌, ◌≤◌, ◌<◌, ◌==◌, true, List, [], ◌∷◌, ◌++◌, length, get_or, Option, Some, None, is_some, refl, sym, ◌∙◌, ap, subst, arith, ◌⊎◌, inl, inr}
use Rattle.std.specs.Prelude.{All}
use Rattle.std.proofs.lemmas.Bool.{cases_Bool, eqb-true, eq-eqb}
use Rattle.std.proofs.lemmas.List.{get_or_append_left, get_or_push, get_or_default, length_push}
use Rattle.std.proofs.Math.ListN.{get_or-eq_default}
use Rattle.std.proofs.lemmas.List.Elements.{All-contains, Contains-get_or}
use Rattle.ix_sheet.specs.declared.problem.Problem.{Problem}
use Rattle.ix_sheet.specs.Schedules.{IsValidProblem, IsForward, HasFreeEdge}
use Rattle.ix_problem.specs.declared.reach.Reach.{Reach}
use Rattle.ix_problem.specs.Reaches.{delay_at, free_into, AreStartsOf, AreAllStarts, reach_at, best_of, with_delay, reach_after, AreWithin, IsStep, ReachesWith, AreReaches, LeadBack}
use Rattle.ix_problem.proofs.Starts.{best_most, best_from, free_starts_are}

pub edge_forward : (p : Problem) (i j : ℕ) → IsValidProblem p → HasFreeEdge p i j → (i < j) × (j < length p.ops)
edge_forward p i j valid e = All-contains (IsForward p) p.edges (i, j) valid.forward e.0

-- ---- lists of reaches
none_is_some : (r : Reach) → None ≡ Some r → ⊥
none_is_some r e = cc

some_same : (a b : Reach) → Some a ≡ Some b → a ≡ b
some_same a b e = cc

le_or_lt : (a b : ℕ) → (a ≤ b) ⊎ (b < a)
le_or_lt a b = grind arith

eq_or_lt : (a b : ℕ) → a < b + 1 → (a ≡ b) ⊎ (a < b)
eq_or_lt a b h = grind arith

pub found_within : (reaches : List (Option Reach)) (k : ℕ) (r : Reach) → reach_at reaches k ≡ Some r → k < length reaches
found_within reaches k r e = elim (le_or_lt (length reaches) k) [
  | inl past ↦ absurd (none_is_some r (sym (get_or-eq_default reaches None past) ∙ e))
  | inr inside ↦ inside
]

at_old : (reaches : List (Option Reach)) (new : Option Reach) (k : ℕ) → k < length reaches → reach_at (reaches ++ new ∷ []) k ≡ reach_at reaches k
at_old reaches new k h = get_or_append_left reaches (new ∷ []) None k h

at_new : (reaches : List (Option Reach)) (new : Option Reach) → reach_at (reaches ++ new ∷ []) (length reaches) ≡ new
at_new reaches new = get_or_push reaches new None (length reaches) refl

found_more : (reaches : List (Option Reach)) (new : Option Reach) (k : ℕ) (r : Reach) → reach_at reaches k ≡ Some r → reach_at (reaches ++ new ∷ []) k ≡ Some r
found_more reaches new k r e = at_old reaches new k (found_within reaches k r e) ∙ e

step_more : (p : Problem) (reaches : List (Option Reach)) (new : Option Reach) (k : ℕ) (r : Reach) → IsStep p reaches k r → IsStep p (reaches ++ new ∷ []) k r
step_more p reaches new k r s = record { before = s.before; found = found_more reaches new r.parent s.before s.found; edge = s.edge; delay = s.delay }

-- ---- the next operation
with_delay_some : (delay : ℕ) (o : Option Reach) (r : Reach) → with_delay delay o ≡ Some r
    → (b : Reach) × (o ≡ Some b) × (record { delay = b.delay + delay; parent = b.parent } ≡ r)
with_delay_some delay None r e = absurd (none_is_some r e)
with_delay_some delay (Some b) r e = (b, refl, some_same _ r e)

after_other : (reaches : List (Option Reach)) (source at delay : ℕ) (starts : List ℕ) → at ≢ source
    → reach_after reaches source at delay starts ≡ with_delay delay (best_of reaches None starts)
after_other reaches source at delay starts differ = elim (cases_Bool (at == source)) [
  | inl same ↦ absurd (differ (eqb-true at source same))
  | inr other ↦ rw other refl
]

after_source : (reaches : List (Option Reach)) (source at delay : ℕ) (starts : List ℕ) → at ≡ source
    → reach_after reaches source at delay starts ≡ Some (record { delay = delay; parent = at })
after_source reaches source at delay starts same = let test : (at == source) ≡ true = eq-eqb at source same in rw test refl

step_new : (p : Problem) (reaches : List (Option Reach)) (starts : List ℕ) (at delay : ℕ) (r : Reach) → AreStartsOf p at starts → delay ≡ delay_at p at
    → with_delay delay (best_of reaches None starts) ≡ Some r → IsStep p reaches at r
step_new p reaches starts at delay r are same e =
    let best = with_delay_some delay (best_of reaches None starts) r e in
    let parent : (best.0).parent ≡ r.parent = ap (λ (x : Reach). x.parent) best.2 in
    let total : (best.0).delay + delay ≡ r.delay = ap (λ (x : Reach). x.delay) best.2 in
    elim (best_from reaches None starts best.0 best.1) [
      | inl old ↦ absurd (none_is_some best.0 old)
      | inr from ↦ record {
        before = from.start;
        found = sym (ap (reach_at reaches) parent) ∙ from.found;
        edge = subst (λ k. HasFreeEdge p k at) parent (are.0 (best.0).parent from.among);
        delay = omega (arith, total, from.delay, same);
      }
    ]

reaches_new : (p : Problem) (reaches : List (Option Reach)) (starts : List ℕ) (k at delay : ℕ) (q : Reach) → AreStartsOf p at starts → delay ≡ delay_at p at
    → HasFreeEdge p k at → reach_at reaches k ≡ Some q
    → (r : Reach) × (with_delay delay (best_of reaches None starts) ≡ Some r) × (q.delay + delay_at p at ≤ r.delay)
reaches_new p reaches starts k at delay q are same edge e =
    let best = best_most reaches None starts k q (are.1 k edge) e in
    (record { delay = (best.0).delay + delay; parent = (best.0).parent }, ap (with_delay delay) best.1, omega (arith, best.2, same))

module _ (p : Problem) (source delay : ℕ) (reaches : List (Option Reach)) (starts : List ℕ) (valid : IsValidProblem p) (old : AreReaches p source reaches)
    (are : AreStartsOf p (length reaches) starts) (same : delay ≡ delay_at p (length reaches)) where
  abbrev new : Option Reach
  new = reach_after reaches source (length reaches) delay starts

  abbrev more : List (Option Reach)
  more = reaches ++ new ∷ []

  size : length more ≡ length reaches + 1
  size = length_push reaches new

  start_next : source < length more → reach_at more source ≡ Some (record { delay = delay_at p source; parent = source })
  start_next h = elim (eq_or_lt source (length reaches) (omega (arith, size))) [
    | inl last ↦
        (ap (reach_at more) last ∙ at_new reaches new ∙ after_source reaches source (length reaches) delay starts (sym last)
        ∙ ap (λ (d : ℕ). Some (record { delay = d; parent = length reaches })) (same ∙ ap (delay_at p) (sym last))
        ∙ ap (λ (k : ℕ). Some (record { delay = delay_at p source; parent = k })) (sym last))
    | inr before ↦ found_more reaches new source (record { delay = delay_at p source; parent = source }) (old.start before)
  ]

  back_next : (k : ℕ) (r : Reach) → reach_at more k ≡ Some r → k ≢ source → IsStep p more k r
  back_next k r e differ = elim (eq_or_lt k (length reaches) (omega (arith, found_within more k r e, size))) [
    | inl last ↦
        (let here : new ≡ Some r = sym (at_new reaches new) ∙ ap (reach_at more) (sym last) ∙ e in
        let other : length reaches ≢ source = λ x. differ (last ∙ x) in
        let found : with_delay delay (best_of reaches None starts) ≡ Some r = sym (after_other reaches source (length reaches) delay starts other) ∙ here in
        subst (λ x. IsStep p more x r) (sym last) (step_more p reaches new (length reaches) r (step_new p reaches starts (length reaches) delay r are same found)))
    | inr before ↦ step_more p reaches new k r (old.back k r (sym (at_old reaches new k before) ∙ e) differ)
  ]

  on_next : (k j : ℕ) (q : Reach) → j < length more → j ≢ source → HasFreeEdge p k j → reach_at more k ≡ Some q → ReachesWith more j (q.delay + delay_at p j)
  on_next k j q h differ edge e =
      let forward = edge_forward p k j valid edge in
      let within : j < length reaches + 1 = omega (arith, size) in
      let found : reach_at reaches k ≡ Some q = sym (at_old reaches new k (omega (arith, within, forward.0))) ∙ e in
      elim (eq_or_lt j (length reaches) within) [
        | inl last ↦
            (let other : length reaches ≢ source = λ x. differ (last ∙ x) in
            let reached = reaches_new p reaches starts k (length reaches) delay q are same (subst (HasFreeEdge p k) last edge) found in (
              reached.0,
              ap (reach_at more) last ∙ at_new reaches new ∙ after_other reaches source (length reaches) delay starts other ∙ reached.1,
              omega (arith, reached.2, ap (delay_at p) last),
            ))
        | inr before ↦
            (let reached = old.on k j q before differ edge found in
            (reached.0, found_more reaches new j reached.0 reached.1, reached.2))
      ]

  pub reaches_next : AreReaches p source more
  reaches_next = record { start = start_next; back = back_next; on = on_next }

-- ---- limits of delays
best_within : (reaches : List (Option Reach)) (starts : List ℕ) (limit : ℕ) (r : Reach) → AreWithin limit reaches → best_of reaches None starts ≡ Some r → r.delay ≤ limit
best_within reaches starts limit r within e = elim (best_from reaches None starts r e) [
  | inl old ↦ absurd (none_is_some r old)
  | inr from ↦ omega (arith, within r.parent from.start from.found, from.delay)
]

pub best_small : (reaches : List (Option Reach)) (starts : List ℕ) (limit : ℕ) (r : Reach) → AreWithin limit reaches → best_of reaches None starts ≡ Some r → r.delay ≤ limit
best_small = best_within

after_within : (reaches : List (Option Reach)) (source at delay limit : ℕ) (starts : List ℕ) (r : Reach) → AreWithin limit reaches
    → reach_after reaches source at delay starts ≡ Some r → r.delay ≤ limit + delay
after_within reaches source at delay limit starts r within e = elim (cases_Bool (at == source)) [
  | inl same ↦
      (let now : Some (record { delay = delay; parent = at }) ≡ Some r = rw same at e in
      omega (arith, ap (λ (x : Reach). x.delay) (some_same _ r now)))
  | inr other ↦
      (let now : with_delay delay (best_of reaches None starts) ≡ Some r = rw other at e in
      let best = with_delay_some delay (best_of reaches None starts) r now in
      omega (arith, best_within reaches starts limit best.0 within best.1, ap (λ (x : Reach). x.delay) best.2))
]

pub within_next : (reaches : List (Option Reach)) (source at delay limit : ℕ) (starts : List ℕ) → AreWithin limit reaches
    → AreWithin (limit + delay) (reaches ++ reach_after reaches source at delay starts ∷ [])
within_next reaches source at delay limit starts within k r e =
    let new = reach_after reaches source at delay starts in
    elim (eq_or_lt k (length reaches) (omega (arith, found_within (reaches ++ new ∷ []) k r e, length_push reaches new))) [
      | inl last ↦ after_within reaches source at delay limit starts r within (sym (at_new reaches new) ∙ ap (reach_at (reaches ++ new ∷ [])) (sym last) ∙ e)
      | inr before ↦ omega (arith, within k r (sym (at_old reaches new k before) ∙ e))
    ]

pub within_more : (limit high : ℕ) (reaches : List (Option Reach)) → limit ≤ high → AreWithin limit reaches → AreWithin high reaches
within_more limit high reaches h within k r e = omega (arith, within k r e)

-- ---- the way back
pub leads_back : (p : Problem) (source : ℕ) (reaches : List (Option Reach)) → IsValidProblem p → AreReaches p source reaches → LeadBack source reaches
leads_back p source reaches valid are k r e differ =
    let s = are.back k r e differ in
    ((edge_forward p r.parent k valid s.edge).0, ap is_some s.found)

-- ---- the lists of starts
pub starts_at : (p : Problem) (starts : List (List ℕ)) (at : ℕ) (x : List ℕ) → AreAllStarts p starts → at < length starts → x ≡ get_or starts at x → AreStartsOf p at x
starts_at p starts at x all within e = subst (AreStartsOf p at) (sym (e ∙ get_or_default starts at x [] within)) (all at within)

pub starts_inside : (p : Problem) (at limit : ℕ) (starts : List ℕ) → IsValidProblem p → AreStartsOf p at starts → at ≤ limit → All (λ k. k < limit) starts
starts_inside p at limit starts valid are most k d h =
    let forward = edge_forward p (get_or starts k d) at valid (are.0 (get_or starts k d) (Contains-get_or starts k d h)) in
    omega arith

abbrev starts_in : List (List ℕ) → ℕ → List ℕ
starts_in starts j = get_or starts j []

pub starts_push : (p : Problem) (starts : List (List ℕ)) (new : List ℕ) → AreAllStarts p starts → AreStartsOf p (length starts) new → AreAllStarts p (starts ++ new ∷ [])
starts_push p starts new all are j h = elim (eq_or_lt j (length starts) (omega (arith, length_push starts new))) [
  | inl last ↦ subst (λ k. AreStartsOf p k (starts_in (starts ++ new ∷ []) k)) (sym last) (subst (AreStartsOf p (length starts)) (sym (get_or_push starts new [] (length starts) refl)) are)
  | inr before ↦ subst (AreStartsOf p j) (sym (get_or_append_left starts (new ∷ []) [] j before)) (all j before)
]

pub no_reaches : (p : Problem) (source : ℕ) → AreReaches p source []
no_reaches p source = record {
  start = λ h. absurd (omega arith);
  back = λ k r e. absurd (none_is_some r (sym (get_or-eq_default [] None {n = k} (omega arith)) ∙ e));
  on = λ k j q h. absurd (omega arith);
}

abbrev pub most_delay : ℕ
most_delay = 4294967295

-- what the list of reaches keeps while it grows
abbrev pub Kept : Problem → ℕ → ℕ → List (Option Reach) → Type 0
Kept p source at reaches = (length reaches ≡ at) × AreReaches p source reaches × AreWithin (at * most_delay) reaches

kept_more : (p : Problem) (source delay : ℕ) (reaches : List (Option Reach)) (starts : List ℕ) → IsValidProblem p → AreReaches p source reaches
    → AreStartsOf p (length reaches) starts → delay ≡ delay_at p (length reaches) → delay ≤ most_delay → AreWithin (length reaches * most_delay) reaches
    → Kept p source (length reaches + 1) (reaches ++ reach_after reaches source (length reaches) delay starts ∷ [])
kept_more p source delay reaches starts valid old are same small within =
    let new = reach_after reaches source (length reaches) delay starts in (
      length_push reaches new,
      reaches_next p source delay reaches starts valid old are same,
      within_more (length reaches * most_delay + delay) ((length reaches + 1) * most_delay) (reaches ++ new ∷ []) (omega arith)
          (within_next reaches source (length reaches) delay (length reaches * most_delay) starts within),
    )

pub kept_push : (p : Problem) (source at delay : ℕ) (reaches last : List (Option Reach)) (starts : List ℕ) → IsValidProblem p → Kept p source at reaches
    → AreStartsOf p at starts → delay ≡ delay_at p at → delay ≤ most_delay → last ≡ reaches ++ reach_after reaches source at delay starts ∷ []
    → Kept p source (at + 1) last
kept_push p source at delay reaches last starts valid kept are same small e =
    let here : at ≡ length reaches = sym kept.0 in
    subst (Kept p source (at + 1)) (sym e)
    (subst (λ n. Kept p source (n + 1) (reaches ++ reach_after reaches source n delay starts ∷ [])) (sym here)
    (kept_more p source delay reaches starts valid kept.1 (subst (λ n. AreStartsOf p n starts) here are) (same ∙ ap (delay_at p) here) small
    (subst (λ n. AreWithin (n * most_delay) reaches) here kept.2)))

pub grown : (p : Problem) (to : ℕ) (starts last : List (List ℕ)) (new : List ℕ) → length starts ≡ to → ((j : ℕ) → j < to → AreStartsOf p j (starts_in starts j))
    → last ≡ starts ++ new ∷ [] → new ≡ free_into p to p.edges
    → (length last ≡ to + 1) × ((j : ℕ) → j < to + 1 → AreStartsOf p j (starts_in last j))
grown p to starts last new size all e is =
    let count : length last ≡ length starts + 1 = ap (λ (xs : List (List ℕ)). length xs) e ∙ length_push starts new in
    let here : AreStartsOf p (length starts) new =
    subst (AreStartsOf p (length starts)) (sym is) (subst (λ n. AreStartsOf p n (free_into p to p.edges)) (sym size) (free_starts_are p to))
    in
    let more : AreAllStarts p (starts ++ new ∷ []) = starts_push p starts new (λ j h. all j (omega arith)) here in
    let moved : AreAllStarts p last = subst (AreAllStarts p) (sym e) more in
    (omega arith, λ j h. moved j (omega arith))
