-- Targets that are merged in a growing store.
use Rattle.std.proofs.Common.{◌≡◌, ℕ, zero, suc, ◌+◌, ◌<◌, ◌≤◌, refl, sym, ap, subst, ◌∙◌, arith, Bool, List, [], ◌∷◌, ◌++◌, length, map, get_or, drop, append_assoc}
use Rattle.std.specs.List.{AllByRecursion}
use Rattle.std.proofs.lemmas.List.{map-append, append-nil, drop_all, drop_more}
use Rattle.ix_mean.specs.Terms.{Term, Entry, same_term, zero_term, merge_condition, merge_entry, merge_targets}
use Rattle.ix_terms.specs.declared.targets.Target.{Target}
use Rattle.ix_terms.specs.Stores.{Stock, at, size, Grows, Has}
use Rattle.ix_terms.specs.Targets.{entry_at, given, IsTargetAt, IsBelow, HasEntry}
use Rattle.ix_terms.proofs.Storing.{grown_at}
use Rattle.ix_terms.proofs.Makes.{grows_on, grown_length, term_grown}

pub entry_is : (c d v w a b : Term) → c ≡ d → v ≡ w → a ≡ b
    → let x : Entry = record { condition = c; value = v; address = a } in
    let y : Entry = record { condition = d; value = w; address = b } in
    x ≡ y
entry_is c d v w a b e f g =
    ap (λ (z : Term). let x : Entry = record { condition = z; value = v; address = a } in x) e
    ∙ ap (λ (z : Term). let x : Entry = record { condition = d; value = z; address = a } in x) f
    ∙ ap (λ (z : Term). let x : Entry = record { condition = d; value = w; address = z } in x) g

given_on : (old now : Stock) (zx zy ox oy : Bool) (c x y : ℕ) → Grows old now → c < size old → x < size old → y < size old → zx ≡ ox → zy ≡ oy
    → given zx zy (at now c) (at now x) (at now y) ≡ given ox oy (at old c) (at old x) (at old y)
given_on old now zx zy ox oy c x y g lc lx ly ex ey =
    ap (λ (t : Term). given zx zy t (at now x) (at now y)) (grown_at old now c g lc) ∙ ap (λ (t : Term). given zx zy (at old c) t (at now y)) (grown_at old now x g lx)
    ∙ ap (given zx zy (at old c) (at old x)) (grown_at old now y g ly) ∙ ap (λ (b : Bool). given b zy (at old c) (at old x) (at old y)) ex ∙ ap (λ (b : Bool). given ox b (at old c) (at old x) (at old y)) ey

pub entry_made : (old one two new : Stock) (c : ℕ) (x y : Target) (zx zy : Bool) (k v a : ℕ) → c < size old → IsTargetAt old x → IsTargetAt old y
    → zx ≡ same_term (at old x.condition) zero_term → zy ≡ same_term (at old y.condition) zero_term
    → Has old one k (merge_condition (at old c) (at old x.condition) (at old y.condition))
    → Has one two v (given zx zy (at one c) (at one x.value) (at one y.value))
    → Has two new a (given zx zy (at two c) (at two x.address) (at two y.address))
    → HasEntry old new (record { condition = k; value = v; address = a }) (merge_entry (at old c) (entry_at old x) (entry_at old y))
entry_made old one two new c x y zx zy k v a lc px py ex ey h1 h2 h3 =
    let g2 = grows_on old one two h1.grows h2.grows in
    record {
      grows = grows_on old two new g2 h3.grows;
      below = record {
        condition = omega (arith, h1.within, grown_length one two h2.grows, grown_length two new h3.grows);
        value = omega (arith, h2.within, grown_length two new h3.grows);
        address = h3.within;
      };
      is = entry_is _ _ _ _ _ _
          (grown_at one new k (grows_on one two new h2.grows h3.grows) h1.within ∙ h1.is)
          (grown_at two new v h3.grows h2.within ∙ h2.is ∙ given_on old one zx zy _ _ c x.value y.value h1.grows lc px.value.within py.value.within ex ey)
          (h3.is ∙ given_on old two zx zy _ _ c x.address y.address g2 lc px.address.within py.address.within ex ey);
    }

pub entries_kept : (old new : Stock) → Grows old new → (es : List Target) → AllByRecursion (IsBelow (size old)) es → map (entry_at new) es ≡ map (entry_at old) es
entries_kept old new g [] h = refl
entries_kept old new g (e ∷ es) h =
    ap (λ (x : Entry). x ∷ map (entry_at new) es)
    (ap (λ (t : Term). let x : Entry = record { condition = t; value = at new e.value; address = at new e.address } in x) (grown_at old new e.condition g h.0.condition)
    ∙ ap (λ (t : Term). let x : Entry = record { condition = at old e.condition; value = t; address = at new e.address } in x) (grown_at old new e.value g h.0.value)
    ∙ ap (λ (t : Term). let x : Entry = record { condition = at old e.condition; value = at old e.value; address = t } in x) (grown_at old new e.address g h.0.address))
    ∙ ap (λ (xs : List Entry). entry_at old e ∷ xs) (entries_kept old new g es h.1)

pub targets_kept : (m n : ℕ) → m ≤ n → (es : List Target) → AllByRecursion (IsBelow m) es → AllByRecursion (IsBelow n) es
targets_kept m n l [] h = tt
targets_kept m n l (e ∷ es) h =
    (record { condition = omega (arith, h.0.condition); value = omega (arith, h.0.value); address = omega (arith, h.0.address) }, targets_kept m n l es h.1)

-- ---- all targets, one by one
pub record MergingAll (old now : Stock) (c : ℕ) (xs ys out : List Target) (k : ℕ) : Type 0 where
  pub grows : Grows old now
  pub below : AllByRecursion (IsBelow (size now)) out
  pub are : map (entry_at now) out ++ merge_targets (at old c) (map (entry_at old) (drop k xs)) (map (entry_at old) (drop k ys)) ≡ merge_targets (at old c) (map (entry_at old) xs) (map (entry_at old) ys)

abbrev pub AreTargetsAt : Stock → List Target → Type 0
AreTargetsAt ts es = AllByRecursion (IsTargetAt ts) es

pub target_in : (ts : Stock) (es : List Target) (k : ℕ) (d : Target) → AreTargetsAt ts es → k < length es → IsTargetAt ts (get_or es k d)
target_in ts [] k d h l = absurd (omega arith)
target_in ts (e ∷ es) zero d h l = h.0
target_in ts (e ∷ es) (suc k) d h l = target_in ts es k d h.1 (omega arith)

pub target_grown : (old new : Stock) (t : Target) → Grows old new → IsTargetAt old t → IsTargetAt new t
target_grown old new t g h = record { condition = term_grown old new t.condition g h.condition; value = term_grown old new t.value g h.value; address = term_grown old new t.address g h.address }

same_entry : (old now : Stock) (t : Target) → Grows old now → IsTargetAt old t → entry_at now t ≡ entry_at old t
same_entry old now t g h = entry_is _ _ _ _ _ _ (grown_at old now t.condition g h.condition.within) (grown_at old now t.value g h.value.within) (grown_at old now t.address g h.address.within)

rest_all : (old : Stock) (C : Term) (xs ys : List Target) (k : ℕ) (d : Target) → k < length xs → k < length ys
    → merge_targets C (map (entry_at old) (drop k xs)) (map (entry_at old) (drop k ys)) ≡ merge_entry C (entry_at old (get_or xs k d)) (entry_at old (get_or ys k d)) ∷ merge_targets C (map (entry_at old) (drop (k + 1) xs)) (map (entry_at old) (drop (k + 1) ys))
rest_all old C xs ys k d hx hy =
    ap (λ (zs : List Target). merge_targets C (map (entry_at old) zs) (map (entry_at old) (drop k ys))) (drop_more xs k d hx)
    ∙ ap (λ (zs : List Target). merge_targets C (map (entry_at old) (get_or xs k d ∷ drop (k + 1) xs)) (map (entry_at old) zs)) (drop_more ys k d hy)

pub all_step : (old now new : Stock) (c : ℕ) (xs ys out made : List Target) (k : ℕ) (d x y m : Target) → c < size old → AreTargetsAt old xs → AreTargetsAt old ys → k < length xs → k < length ys → x ≡ get_or xs k d → y ≡ get_or ys k d
    → MergingAll old now c xs ys out k → HasEntry now new m (merge_entry (at now c) (entry_at now x) (entry_at now y)) → made ≡ out ++ m ∷ [] → MergingAll old new c xs ys made (k + 1)
all_step old now new c xs ys out made k d x y m lc px py hx hy ex ey g h e =
    let tx : IsTargetAt old x = subst (IsTargetAt old) (sym ex) (target_in old xs k d px hx) in
    let ty : IsTargetAt old y = subst (IsTargetAt old) (sym ey) (target_in old ys k d py hy) in
    let C = at old c in
    let rest = merge_targets C (map (entry_at old) (drop (k + 1) xs)) (map (entry_at old) (drop (k + 1) ys)) in
    let is : entry_at new m ≡ merge_entry C (entry_at old (get_or xs k d)) (entry_at old (get_or ys k d)) =
    h.is ∙ ap (λ (t : Term). merge_entry t (entry_at now x) (entry_at now y)) (grown_at old now c g.grows lc)
    ∙ ap (λ (t : Entry). merge_entry C t (entry_at now y)) (same_entry old now x g.grows tx ∙ ap (entry_at old) ex)
    ∙ ap (merge_entry C (entry_at old (get_or xs k d))) (same_entry old now y g.grows ty ∙ ap (entry_at old) ey) in
    record {
      grows = grows_on old now new g.grows h.grows;
      below = subst (AllByRecursion (IsBelow (size new))) (sym e) (push_below (size new) out m (targets_kept (size now) (size new) (grown_length now new h.grows) out g.below) h.below);
      are =
          ap (λ (zs : List Target). map (entry_at new) zs ++ rest) e
          ∙ ap (λ (ts : List Entry). ts ++ rest) (map-append (entry_at new) out (m ∷ []))
          ∙ append_assoc (map (entry_at new) out) (entry_at new m ∷ []) rest
          ∙ ap (λ (ts : List Entry). ts ++ (entry_at new m ∷ rest)) (entries_kept now new h.grows out g.below)
          ∙ ap (λ (t : Entry). map (entry_at now) out ++ (t ∷ rest)) is
          ∙ ap (λ (ts : List Entry). map (entry_at now) out ++ ts) (sym (rest_all old C xs ys k d hx hy))
          ∙ g.are;
    }
  where
    push_below : (n : ℕ) (es : List Target) (t : Target) → AllByRecursion (IsBelow n) es → IsBelow n t → AllByRecursion (IsBelow n) (es ++ t ∷ [])
    push_below n [] t h l = (l, tt)
    push_below n (e ∷ es) t h l = (h.0, push_below n es t h.1 l)

pub all_end : (old now : Stock) (c : ℕ) (xs ys out : List Target) (k : ℕ) → length xs ≤ k → MergingAll old now c xs ys out k → map (entry_at now) out ≡ merge_targets (at old c) (map (entry_at old) xs) (map (entry_at old) ys)
all_end old now c xs ys out k l g =
    sym (append-nil (map (entry_at now) out))
    ∙ ap (λ (zs : List Target). map (entry_at now) out ++ merge_targets (at old c) (map (entry_at old) zs) (map (entry_at old) (drop k ys))) (sym (drop_all k xs l))
    ∙ g.are
