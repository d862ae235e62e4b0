-- The search for operations by places.
use Rattle.std.proofs.Common.{◌≡◌, ℕ, ◌+◌, ◌<◌, ◌≤◌, refl, sym, ap, subst, ◌∙◌, arith, Bool, true, false, List, [], ◌∷◌, ◌++◌, length, Result, Ok, Err}
use Rattle.std.specs.Prelude.{nat_eq, ◌||◌}
use Rattle.std.specs.List.{list_any, AllByRecursion, flat_map}
use Rattle.std.proofs.lemmas.Bool.{cond-true, cond-false}
use Rattle.std.proofs.lemmas.List.{length_push, length-map, map-append}
use Rattle.ix_mean.specs.Terms.{Term, t_const, t_read, t_one, t_entry, t_two, t_three, same_term}
use Rattle.ix_mean.specs.Order.{postorder, has_term, add_term, add_all, IsClosed}
use Rattle.ix_mean.proofs.Ordering.{add_append, all_length, met_before, has_among, closed_all}
use Rattle.ix_terms.specs.Stores.{Stock, at, size, AreDistinct}
use Rattle.ix_flow.specs.Orders.{terms_at, IsOrder, HasVisited, Comes, Puts, Visits, below_term, itself}
use Rattle.ix_flow.specs.declared.error.FlowErr.{FlowErr}
use Rattle.ix_flow.specs.declared.error.FlowErr.TheVariants.{TooManyOps, Memory}
use Rattle.ix_terms.proofs.Storing.{same_places}

pub listed : (ts : Stock) → AreDistinct ts → (k : ℕ) → k < size ts → (ks : List ℕ) → AllByRecursion (λ j. j < size ts) ks → list_any (nat_eq k) ks ≡ has_term (terms_at ts ks) (at ts k)
listed ts d k h [] b = refl
listed ts d k h (j ∷ ks) b =
    ap (λ (x : Bool). x || list_any (nat_eq k) ks) (same_places ts k j d h b.0) ∙ ap (λ (x : Bool). same_term (at ts k) (at ts j) || x) (listed ts d k h ks b.1)

-- ---- one more operation
pub added : (ts : Stock) (ks made : List ℕ) (k : ℕ) → has_term (terms_at ts ks) (at ts k) ≡ false → made ≡ ks ++ k ∷ [] → terms_at ts made ≡ add_term (terms_at ts ks) (at ts k)
added ts ks made k h e =
    ap (terms_at ts) e ∙ map-append (at ts) ks (k ∷ []) ∙ sym (cond-false (has_term (terms_at ts ks) (at ts k)) (terms_at ts ks) (terms_at ts ks ++ at ts k ∷ []) h)

pub kept : (ts : Stock) (ks : List ℕ) (k : ℕ) → has_term (terms_at ts ks) (at ts k) ≡ true → terms_at ts ks ≡ add_term (terms_at ts ks) (at ts k)
kept ts ks k h = sym (cond-true (has_term (terms_at ts ks) (at ts k)) (terms_at ts ks) (terms_at ts ks ++ at ts k ∷ []) h)

pub too_many : (ts : Stock) (ks : List ℕ) (k : ℕ) → has_term (terms_at ts ks) (at ts k) ≡ false → 256 ≤ length ks → 256 < length (add_term (terms_at ts ks) (at ts k))
too_many ts ks k h l =
    let e : add_term (terms_at ts ks) (at ts k) ≡ terms_at ts ks ++ at ts k ∷ [] = cond-false (has_term (terms_at ts ks) (at ts k)) (terms_at ts ks) (terms_at ts ks ++ at ts k ∷ []) h in
    let m : length (terms_at ts ks ++ at ts k ∷ []) ≡ length (terms_at ts ks) + 1 = length_push (terms_at ts ks) (at ts k) in
    subst (λ (xs : List Term). 256 < length xs) (sym e) (omega (arith, m, length-map ks (at ts)))

-- ---- what comes of a search
pub visited_before : (ts : Stock) (ks : List ℕ) (k : ℕ) → IsOrder ts ks → has_term (terms_at ts ks) (at ts k) ≡ true → HasVisited ts ks ks (postorder (at ts k))
visited_before ts ks k o h = record { terms = sym (met_before (terms_at ts ks) (at ts k) o.closed (has_among (terms_at ts ks) (at ts k) h)); order = o }

pub order_split : (t : Term) → postorder t ≡ below_term t ++ itself t
order_split (t_const ty raw) = refl
order_split (t_read k ty) = refl
order_split (t_one k ty a) = refl
order_split (t_entry n es ty a) = refl
order_split (t_two k ty a b) = refl
order_split (t_three k ty a b c) = refl

pub err_on : (P Q : Type 0) (ts : Stock) (old : List ℕ) (us vs : List Term) (e : FlowErr) → Comes P ts old us (Err e) → Comes Q ts old (us ++ vs) (Err e)
err_on P Q ts old us vs TooManyOps h =
    let l : 256 < length (add_all (terms_at ts old) us) = h in
    subst (λ (xs : List Term). 256 < length xs) (sym (add_append (terms_at ts old) us vs)) (omega (arith, l, all_length (add_all (terms_at ts old) us) vs))
err_on P Q ts old us vs Memory h = tt

joined : (ts : Stock) (old mid new : List ℕ) (us vs : List Term) → terms_at ts mid ≡ add_all (terms_at ts old) us → terms_at ts new ≡ add_all (terms_at ts mid) vs → terms_at ts new ≡ add_all (terms_at ts old) (us ++ vs)
joined ts old mid new us vs e f = f ∙ ap (λ (xs : List Term). add_all xs vs) e ∙ sym (add_append (terms_at ts old) us vs)

longer : (ts : Stock) (old mid : List ℕ) (us vs : List Term) → terms_at ts mid ≡ add_all (terms_at ts old) us → 256 < length (add_all (terms_at ts mid) vs) → 256 < length (add_all (terms_at ts old) (us ++ vs))
longer ts old mid us vs e l = subst (λ (xs : List Term). 256 < length xs) (ap (λ (xs : List Term). add_all xs vs) e ∙ sym (add_append (terms_at ts old) us vs)) l

pub then_visit : (ts : Stock) (old mid new : List ℕ) (us vs : List Term) (r : Result (Unit {0}) FlowErr) → HasVisited ts old mid us → Visits ts mid new vs r → Visits ts old new (us ++ vs) r
then_visit ts old mid new us vs (Ok x) h g = record { terms = joined ts old mid new us vs h.terms g.terms; order = g.order }
then_visit ts old mid new us vs (Err TooManyOps) h g = longer ts old mid us vs h.terms g
then_visit ts old mid new us vs (Err Memory) h g = tt

pub then_last : (ts : Stock) (old mid new : List ℕ) (t : Term) (r : Result (Unit {0}) FlowErr) → IsOrder ts old → HasVisited ts old mid (below_term t) → Puts ts mid new (itself t) r → Visits ts old new (postorder t) r
then_last ts old mid new t (Ok x) o h g =
    let e : terms_at ts new ≡ add_all (terms_at ts old) (postorder t) = joined ts old mid new (below_term t) (itself t) h.terms g.terms ∙ ap (add_all (terms_at ts old)) (sym (order_split t)) in
    record { terms = e; order = record { below = g.below; closed = subst IsClosed (sym e) (closed_all (terms_at ts old) t o.closed); few = g.few } }
then_last ts old mid new t (Err TooManyOps) o h g =
    subst (λ (us : List Term). 256 < length (add_all (terms_at ts old) us)) (sym (order_split t)) (longer ts old mid (below_term t) (itself t) h.terms g)
then_last ts old mid new t (Err Memory) o h g = tt

pub err_last : (P Q : Type 0) (ts : Stock) (old : List ℕ) (t : Term) (e : FlowErr) → Comes P ts old (below_term t) (Err e) → Comes Q ts old (postorder t) (Err e)
err_last P Q ts old t e h = subst (λ (us : List Term). Comes Q ts old us (Err e)) (sym (order_split t)) (err_on P Q ts old (below_term t) (itself t) e h)

pub visits_err : (ts : Stock) (old mid : List ℕ) (us vs : List Term) (e : FlowErr) → Visits ts old mid us (Err e) → Visits ts old mid (us ++ vs) (Err e)
visits_err ts old mid us vs e h = err_on (HasVisited ts old mid us) (HasVisited ts old mid (us ++ vs)) ts old us vs e h

pub visits_err_last : (ts : Stock) (old mid : List ℕ) (t : Term) (e : FlowErr) → Visits ts old mid (below_term t) (Err e) → Visits ts old mid (postorder t) (Err e)
visits_err_last ts old mid t e h = err_last (HasVisited ts old mid (below_term t)) (HasVisited ts old mid (postorder t)) ts old t e h

pub visited_listed : (ts : Stock) (ks js : List ℕ) (k : ℕ) (b : Bool) → IsOrder ts ks → js ≡ ks → b ≡ has_term (terms_at ts js) (at ts k) → b ≡ true → HasVisited ts ks ks (postorder (at ts k))
visited_listed ts ks js k b o e f h = visited_before ts ks k o (ap (λ (xs : List ℕ). has_term (terms_at ts xs) (at ts k)) (sym e) ∙ sym f ∙ h)

-- ---- root by root: what is left is to be put behind what is there
pub record IsVisiting (ts : Stock) (old now : List ℕ) (roots rest : List ℕ) : Type 0 where
  pub order : IsOrder ts now
  pub below : AllByRecursion (λ k. k < size ts) rest
  pub same : add_all (terms_at ts now) (flat_map postorder (terms_at ts rest)) ≡ add_all (terms_at ts old) (flat_map postorder (terms_at ts roots))

pub visiting_step : (ts : Stock) (old now new : List ℕ) (roots rest next : List ℕ) (k : ℕ) → IsVisiting ts old now roots rest → rest ≡ k ∷ next → HasVisited ts now new (postorder (at ts k)) → IsVisiting ts old new roots next
visiting_step ts old now new roots rest next k v e h =
    let b : AllByRecursion (λ j. j < size ts) (k ∷ next) = subst (AllByRecursion (λ j. j < size ts)) e v.below in
    record {
      order = h.order;
      below = b.1;
      same =
          ap (λ (xs : List Term). add_all xs (flat_map postorder (terms_at ts next))) h.terms
          ∙ sym (add_append (terms_at ts now) (postorder (at ts k)) (flat_map postorder (terms_at ts next)))
          ∙ ap (λ (ks : List ℕ). add_all (terms_at ts now) (flat_map postorder (terms_at ts ks))) (sym e)
          ∙ v.same;
    }

pub visiting_err : (ts : Stock) (old now new : List ℕ) (roots rest next : List ℕ) (k : ℕ) (e : FlowErr) → IsVisiting ts old now roots rest → rest ≡ k ∷ next → Visits ts now new (postorder (at ts k)) (Err e)
    → Visits ts old new (flat_map postorder (terms_at ts roots)) (Err e)
visiting_err ts old now new roots rest next k TooManyOps v e h =
    let l : 256 < length (add_all (terms_at ts now) (postorder (at ts k))) = h in
    let m : 256 < length (add_all (terms_at ts now) (postorder (at ts k) ++ flat_map postorder (terms_at ts next))) =
    subst (λ (xs : List Term). 256 < length xs) (sym (add_append (terms_at ts now) (postorder (at ts k)) (flat_map postorder (terms_at ts next))))
    (omega (arith, l, all_length (add_all (terms_at ts now) (postorder (at ts k))) (flat_map postorder (terms_at ts next)))) in
    subst (λ (xs : List Term). 256 < length xs) (ap (λ (ks : List ℕ). add_all (terms_at ts now) (flat_map postorder (terms_at ts ks))) (sym e) ∙ v.same) m
visiting_err ts old now new roots rest next k Memory v e h = tt

pub visiting_end : (ts : Stock) (old now : List ℕ) (roots rest : List ℕ) → IsVisiting ts old now roots rest → rest ≡ [] → HasVisited ts old now (flat_map postorder (terms_at ts roots))
visiting_end ts old now roots rest v e = record {
  terms = ap (λ (ks : List ℕ). add_all (terms_at ts now) (flat_map postorder (terms_at ts ks))) (sym e) ∙ v.same;
  order = v.order;
}
