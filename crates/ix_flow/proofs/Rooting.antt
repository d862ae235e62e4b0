-- The writes of targets that may be written, put into a store.
use Rattle.std.proofs.Common.{◌≡◌, ℕ, zero, suc, ◌+◌, ◌<◌, ◌≤◌, refl, sym, ap, subst, ◌∙◌, arith, Bool, true, false, cond, List, [], ◌∷◌, ◌++◌, length, map, get_or, drop, append_assoc, add-one}
use Rattle.std.specs.List.{AllByRecursion}
use Rattle.std.proofs.lemmas.Bool.{cond-true, cond-false}
use Rattle.std.proofs.lemmas.List.{map-append, append-nil, drop_all, drop_more}
use Rattle.ix_mean.specs.Terms.{Term, Entry, same_term, zero_term}
use Rattle.ix_mean.specs.Order.{write_root, write_roots}
use Rattle.ix_terms.specs.declared.targets.Target.{Target}
use Rattle.ix_terms.specs.Stores.{Stock, at, size, Grows, Has}
use Rattle.ix_terms.specs.Targets.{entry_at, IsBelow}
use Rattle.ix_terms.proofs.Storing.{grown_at}
use Rattle.ix_terms.proofs.Makes.{grows_itself, grows_on, grown_length}
use Rattle.ix_terms.proofs.Placing.{places_kept, below_kept}
use Rattle.ix_terms.proofs.Entries.{entry_is}
use Rattle.ix_flow.specs.Rooted.{HasMore, root_terms}

pub both_below : (n : ℕ) (js ks : List ℕ) → AllByRecursion (λ k. k < n) js → AllByRecursion (λ k. k < n) ks → AllByRecursion (λ k. k < n) (js ++ ks)
both_below n [] ks a b = b
both_below n (j ∷ js) ks a b = (a.0, both_below n js ks a.1 b)

-- ---- one target
pub root_none : (s : Stock) (rs : List ℕ) (n : ℕ) (e : Entry) → same_term e.condition zero_term ≡ true → HasMore s s rs rs (root_terms n e)
root_none s rs n e h = record { grows = grows_itself s; more = []; whole = sym (append-nil rs); below = tt; are = sym (cond-true (same_term e.condition zero_term) [] (write_root n e ∷ []) h) }

pub root_some : (old new : Stock) (r0 r1 : List ℕ) (n k : ℕ) (e : Entry) → same_term e.condition zero_term ≡ false → Has old new k (write_root n e) → r1 ≡ r0 ++ k ∷ [] → HasMore old new r0 r1 (root_terms n e)
root_some old new r0 r1 n k e h g w = record {
  grows = g.grows;
  more = k ∷ [];
  whole = w;
  below = (g.within, tt);
  are = ap (λ (t : Term). t ∷ []) g.is ∙ sym (cond-false (same_term e.condition zero_term) [] (write_root n e ∷ []) h);
}

-- ---- all targets
roots_split : (n : ℕ) (e : Entry) (es : List Entry) → write_roots n (e ∷ es) ≡ root_terms n e ++ write_roots (suc n) es
roots_split n e es = by (same_term e.condition zero_term)
  where
    by : (b : Bool) → cond b (write_roots (suc n) es) (write_root n e ∷ write_roots (suc n) es) ≡ cond b [] (write_root n e ∷ []) ++ write_roots (suc n) es
    by true = refl
    by false = refl

same_entry : (old now : Stock) (t : Target) → Grows old now → IsBelow (size old) t → entry_at now t ≡ entry_at old t
same_entry old now t g h = entry_is _ _ _ _ _ _ (grown_at old now t.condition g h.condition) (grown_at old now t.value g h.value) (grown_at old now t.address g h.address)

pub target_at : (n : ℕ) (es : List Target) (k : ℕ) (d : Target) → AllByRecursion (IsBelow n) es → k < length es → IsBelow n (get_or es k d)
target_at n [] k d h l = absurd (omega arith)
target_at n (e ∷ es) zero d h l = h.0
target_at n (e ∷ es) (suc k) d h l = target_at n es k d h.1 (omega arith)

pub target_below : (old now : Stock) (es : List Target) (k : ℕ) (t : Target) → Grows old now → AllByRecursion (IsBelow (size old)) es → k < length es → t ≡ get_or es k t → IsBelow (size now) t
target_below old now es k t g h l e =
    let b : IsBelow (size old) t = subst (IsBelow (size old)) (sym e) (target_at (size old) es k t h l) in
    let m = grown_length old now g in
    record { condition = omega (arith, b.condition, m); value = omega (arith, b.value, m); address = omega (arith, b.address, m) }

pub record IsRooting (old now : Stock) (targets : List Target) (r0 r1 : List ℕ) (k : ℕ) : Type 0 where
  pub grows : Grows old now
  pub more : List ℕ
  pub whole : r1 ≡ r0 ++ more
  pub below : AllByRecursion (λ j. j < size now) more
  pub are : map (at now) more ++ write_roots k (map (entry_at old) (drop k targets)) ≡ write_roots 0 (map (entry_at old) targets)

pub rooting_start : (old : Stock) (targets : List Target) (rs : List ℕ) → IsRooting old old targets rs rs 0
rooting_start old targets rs = record { grows = grows_itself old; more = []; whole = sym (append-nil rs); below = tt; are = refl }

pub rooting_step : (old now new : Stock) (targets : List Target) (r0 r1 r2 : List ℕ) (k : ℕ) (t : Target) → AllByRecursion (IsBelow (size old)) targets → k < length targets → t ≡ get_or targets k t → IsRooting old now targets r0 r1 k
    → HasMore now new r1 r2 (root_terms k (entry_at now t)) → IsRooting old new targets r0 r2 (k + 1)
rooting_step old now new targets r0 r1 r2 k t b l e g h =
    let s : entry_at now t ≡ entry_at old t = same_entry old now t g.grows (subst (IsBelow (size old)) (sym e) (target_at (size old) targets k t b l)) in
    let rest = map (entry_at old) (drop (k + 1) targets) in
    let split : write_roots k (map (entry_at old) (drop k targets)) ≡ root_terms k (entry_at old t) ++ write_roots (k + 1) rest =
    ap (λ (ts : List Target). write_roots k (map (entry_at old) ts)) (drop_more targets k t l ∙ ap (λ (x : Target). x ∷ drop (k + 1) targets) (sym e)) ∙ roots_split k (entry_at old t) rest
    ∙ ap (λ (n : ℕ). root_terms k (entry_at old t) ++ write_roots n rest) (sym (add-one k)) in
    record {
      grows = grows_on old now new g.grows h.grows;
      more = g.more ++ h.more;
      whole = h.whole ∙ ap (λ (rs : List ℕ). rs ++ h.more) g.whole ∙ append_assoc r0 g.more h.more;
      below = both_below (size new) g.more h.more (below_kept (size now) (size new) (grown_length now new h.grows) g.more g.below) h.below;
      are =
          ap (λ (ts : List Term). ts ++ write_roots (k + 1) rest) (map-append (at new) g.more h.more)
          ∙ append_assoc (map (at new) g.more) (map (at new) h.more) (write_roots (k + 1) rest)
          ∙ ap (λ (ts : List Term). ts ++ (map (at new) h.more ++ write_roots (k + 1) rest)) (places_kept now new h.grows g.more g.below)
          ∙ ap (λ (ts : List Term). map (at now) g.more ++ (ts ++ write_roots (k + 1) rest)) (h.are ∙ ap (root_terms k) s)
          ∙ ap (λ (ts : List Term). map (at now) g.more ++ ts) (sym split)
          ∙ g.are;
    }

pub rooting_end : (old now : Stock) (targets : List Target) (r0 r1 : List ℕ) (k : ℕ) → length targets ≤ k → IsRooting old now targets r0 r1 k → HasMore old now r0 r1 (write_roots 0 (map (entry_at old) targets))
rooting_end old now targets r0 r1 k l g = record {
  grows = g.grows;
  more = g.more;
  whole = g.whole;
  below = g.below;
  are =
      sym (append-nil (map (at now) g.more)) ∙ ap (λ (ts : List Target). map (at now) g.more ++ write_roots k (map (entry_at old) ts)) (sym (drop_all k targets l)) ∙ g.are;
}
