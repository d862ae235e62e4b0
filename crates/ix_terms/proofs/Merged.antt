-- Slots that are merged one by one in a growing store.
use Rattle.std.proofs.Common.{◌≡◌, ℕ, zero, suc, ◌+◌, ◌<◌, ◌≤◌, refl, sym, ap, subst, ◌∙◌, arith, List, [], ◌∷◌, ◌++◌, length, map, get_or, drop, append_assoc}
use Rattle.std.specs.List.{AllByRecursion}
use Rattle.std.proofs.lemmas.List.{map-append, append-nil, drop_all, drop_more}
use Rattle.ix_mean.specs.Terms.{Term, merge, merge_slots}
use Rattle.ix_terms.specs.Stores.{Stock, at, size, Grows, Has}
use Rattle.ix_terms.specs.Places.{IsTermAt, AreTermsAt, HasAll}
use Rattle.ix_terms.proofs.Storing.{grown_at}
use Rattle.ix_terms.proofs.Makes.{grows_itself, grows_on, grown_length, term_grown}
use Rattle.ix_terms.proofs.Placing.{places_kept, below_kept, below_push}

pub term_in : (ts : Stock) (ks : List ℕ) (k d : ℕ) → AreTermsAt ts ks → k < length ks → IsTermAt ts (get_or ks k d)
term_in ts [] k d h l = absurd (omega arith)
term_in ts (j ∷ ks) zero d h l = h.0
term_in ts (j ∷ ks) (suc k) d h l = term_in ts ks k d h.1 (omega arith)

pub term_of_place : (old now : Stock) (ks : List ℕ) (k x : ℕ) → Grows old now → AreTermsAt old ks → k < length ks → x ≡ get_or ks k 0 → IsTermAt now x
term_of_place old now ks k x g h l e = subst (IsTermAt now) (sym e) (term_grown old now (get_or ks k 0) g (term_in old ks k 0 h l))

-- ---- the loop
pub record Merging (old now : Stock) (c : ℕ) (xs ys out : List ℕ) (k : ℕ) : Type 0 where
  pub grows : Grows old now
  pub below : AllByRecursion (λ j. j < size now) out
  pub are : map (at now) out ++ merge_slots (at old c) (map (at old) (drop k xs)) (map (at old) (drop k ys)) ≡ merge_slots (at old c) (map (at old) xs) (map (at old) ys)

pub merging_start : (old : Stock) (c : ℕ) (xs ys : List ℕ) → Merging old old c xs ys [] 0
merging_start old c xs ys = record { grows = grows_itself old; below = tt; are = refl }

rest_at : (old : Stock) (C : Term) (xs ys : List ℕ) (k x y : ℕ) → k < length xs → k < length ys → x ≡ get_or xs k 0 → y ≡ get_or ys k 0
    → merge_slots C (map (at old) (drop k xs)) (map (at old) (drop k ys)) ≡ merge C (at old x) (at old y) ∷ merge_slots C (map (at old) (drop (k + 1) xs)) (map (at old) (drop (k + 1) ys))
rest_at old C xs ys k x y hx hy ex ey =
    ap (λ (zs : List ℕ). merge_slots C (map (at old) zs) (map (at old) (drop k ys))) (drop_more xs k 0 hx)
    ∙ ap (λ (zs : List ℕ). merge_slots C (map (at old) (get_or xs k 0 ∷ drop (k + 1) xs)) (map (at old) zs)) (drop_more ys k 0 hy)
    ∙ ap (λ (n : ℕ). merge C (at old n) (at old (get_or ys k 0)) ∷ merge_slots C (map (at old) (drop (k + 1) xs)) (map (at old) (drop (k + 1) ys))) (sym ex)
    ∙ ap (λ (n : ℕ). merge C (at old x) (at old n) ∷ merge_slots C (map (at old) (drop (k + 1) xs)) (map (at old) (drop (k + 1) ys))) (sym ey)

pub merging_step : (old now new : Stock) (c : ℕ) (xs ys out made : List ℕ) (k x y m : ℕ) → c < size old → AreTermsAt old xs → AreTermsAt old ys → k < length xs → k < length ys → x ≡ get_or xs k 0 → y ≡ get_or ys k 0
    → Merging old now c xs ys out k → Has now new m (merge (at now c) (at now x) (at now y)) → made ≡ out ++ m ∷ [] → Merging old new c xs ys made (k + 1)
merging_step old now new c xs ys out made k x y m lc px py hx hy ex ey g h e =
    let tx : x < size old = subst (λ (n : ℕ). n < size old) (sym ex) (term_in old xs k 0 px hx).within in
    let ty : y < size old = subst (λ (n : ℕ). n < size old) (sym ey) (term_in old ys k 0 py hy).within in
    let C = at old c in
    let rest = merge_slots C (map (at old) (drop (k + 1) xs)) (map (at old) (drop (k + 1) ys)) in
    let is : at new m ≡ merge C (at old x) (at old y) =
    h.is ∙ ap (λ (t : Term). merge t (at now x) (at now y)) (grown_at old now c g.grows lc) ∙ ap (λ (t : Term). merge C t (at now y)) (grown_at old now x g.grows tx) ∙ ap (merge C (at old x)) (grown_at old now y g.grows ty) in
    record {
      grows = grows_on old now new g.grows h.grows;
      below = subst (AllByRecursion (λ j. j < size new)) (sym e) (below_push (size new) out m (below_kept (size now) (size new) (grown_length now new h.grows) out g.below) h.within);
      are =
          ap (λ (zs : List ℕ). map (at new) zs ++ rest) e
          ∙ ap (λ (ts : List Term). ts ++ rest) (map-append (at new) out (m ∷ []))
          ∙ append_assoc (map (at new) out) (at new m ∷ []) rest
          ∙ ap (λ (ts : List Term). ts ++ (at new m ∷ rest)) (places_kept now new h.grows out g.below)
          ∙ ap (λ (t : Term). map (at now) out ++ (t ∷ rest)) is
          ∙ ap (λ (ts : List Term). map (at now) out ++ ts) (sym (rest_at old C xs ys k x y hx hy ex ey))
          ∙ g.are;
    }

pub merging_end : (old now : Stock) (c : ℕ) (xs ys out : List ℕ) (k : ℕ) → length xs ≤ k → Merging old now c xs ys out k → HasAll old now out (merge_slots (at old c) (map (at old) xs) (map (at old) ys))
merging_end old now c xs ys out k l g = record {
  grows = g.grows;
  below = g.below;
  are =
      sym (append-nil (map (at now) out))
      ∙ ap (λ (zs : List ℕ). map (at now) out ++ merge_slots (at old c) (map (at old) zs) (map (at old) (drop k ys))) (sym (drop_all k xs l))
      ∙ g.are;
}
