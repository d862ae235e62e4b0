-- The merged ends of an `if` have their types, and stand for the end of the branch that is taken.
use Rattle.std.proofs.Common.{◌≡◌, ℕ, ◌+◌, ◌≤◌, max, refl, sym, ap, subst, ◌∙◌, ⊎_elim, arith, Bool, true, false, cond, Option, Some, None, ℤ, List, [], ◌∷◌, map}
use Rattle.std.specs.Prelude.{not, ◌&&◌, ◌||◌}
use Rattle.std.proofs.lemmas.Bool.{cond_both, and_parts, cases_Bool, both_ways}
use Rattle.ix_bits.specs.declared.number.Ty.{Ty}
use Rattle.ix_bits.specs.Operators.{value_of, is_true}
use Rattle.ix_bits.proofs.Embeddings.{common_least}
use Rattle.ix_graph.specs.declared.kind.Kind.TheVariants as k
use Rattle.ix_types.specs.Results.{IsCommon}
use Rattle.ix_mean.specs.Core.{u1, u32}
use Rattle.ix_mean.specs.Meaning.{Inputs, Write, Numbers}
use Rattle.ix_mean.specs.Terms.{Term, t_const, t_read, t_one, t_entry, t_two, t_three, type_of, value, same_term, make_one, make_two, make_mux, zero_term, one_term, Entry, Terms, merge, merge_condition, merge_entry, merge_slots, merge_targets, merge_terms, along, branch_path, branch, entry_value, denoted}
use Rattle.ix_mean.specs.Typing.{Frame, IsOf, IsEntry, AreOf, AreEntries, IsState, AreInputs}
use Rattle.ix_mean.proofs.Same.{same_term_is}
use Rattle.ix_mean.proofs.Making.{mux_of, mux_value, lnot_of, lnot_true, land_of, land_true}

-- ---- one value
common_itself : (a : Ty) → IsCommon a a a
common_itself a = record {
  signed = sign a.signed;
  width = wide a.signed a.width;
  first = λ n h. h;
  second = λ n h. h;
  least = λ t e g. subst (λ (n : ℕ). n ≤ t.width) (sym (wide a.signed a.width)) (common_least a a t e g);
}
  where
    sign : (s : Bool) → s ≡ (s || s)
    sign true = refl
    sign false = refl

    wide : (s : Bool) (w : ℕ) → w ≡ max (cond (s || s) (cond s w (w + 1)) w) (cond (s || s) (cond s w (w + 1)) w)
    wide true w = omega arith
    wide false w = omega arith

common_of : (ts : List Ty) (ty : Ty) (x y : Term) → IsOf ts ty x → IsOf ts ty y → IsCommon (type_of x) (type_of y) (type_of x)
common_of ts ty x y p q = subst (λ (z : Ty). IsCommon (type_of x) z (type_of x)) (p.ty_is ∙ sym q.ty_is) (common_itself (type_of x))

pub merge_of : (ts : List Ty) (ty : Ty) (c x y : Term) → IsOf ts u1 c → IsOf ts ty x → IsOf ts ty y → IsOf ts ty (merge c x y)
merge_of ts ty c x y h p q =
    cond_both (same_term x y) x (make_mux (type_of x) c x y) (IsOf ts ty)
    (λ e. p)
    (λ e. subst (λ (z : Ty). IsOf ts z (make_mux (type_of x) c x y)) p.ty_is (mux_of ts (type_of x) c x y h.typed h.ty_is p.typed q.typed (common_of ts ty x y p q)))

always : {X : Type 0} (d : Bool) (m n : X) → m ≡ n → m ≡ cond d m n
always true m n e = refl
always false m n e = e

pub merge_value : (ts : List Ty) (i : Inputs) → AreInputs ts i → (ty : Ty) (c x y : Term) → IsOf ts ty x → IsOf ts ty y → value i (merge c x y) ≡ cond (is_true (value i c)) (value i x) (value i y)
merge_value ts i g ty c x y p q =
    cond_both (same_term x y) x (make_mux (type_of x) c x y) (λ z. value i z ≡ cond (is_true (value i c)) (value i x) (value i y))
    (λ e. always (is_true (value i c)) (value i x) (value i y) (ap (value i) (same_term_is x y e)))
    (λ e. mux_value ts i g (type_of x) c x y p.typed q.typed (common_of ts ty x y p q))

-- ---- conditions
pub condition_merged_of : (ts : List Ty) (c x y : Term) → IsOf ts u1 c → IsOf ts u1 x → IsOf ts u1 y → IsOf ts u1 (merge_condition c x y)
condition_merged_of ts c x y h p q =
    cond_both (same_term x y) x _ (IsOf ts u1) (λ e. p)
    (λ e. cond_both (same_term x one_term && same_term y zero_term) c _ (IsOf ts u1) (λ e. h)
    (λ e. cond_both (same_term x zero_term && same_term y one_term) (make_one k.Lnot u1 c) _ (IsOf ts u1) (λ e. lnot_of ts c h)
    (λ e. cond_both (same_term y zero_term) (make_two k.Land u1 c x) _ (IsOf ts u1) (λ e. land_of ts c x h p)
    (λ e. cond_both (same_term x zero_term) (make_two k.Land u1 (make_one k.Lnot u1 c) y) (make_mux u1 c x y) (IsOf ts u1)
    (λ e. land_of ts (make_one k.Lnot u1 c) y (lnot_of ts c h) q)
    (λ e. subst (λ (z : Ty). IsOf ts u1 (make_mux z c x y)) p.ty_is
    (subst (λ (z : Ty). IsOf ts z (make_mux (type_of x) c x y)) p.ty_is (mux_of ts (type_of x) c x y h.typed h.ty_is p.typed q.typed (common_of ts u1 x y p q))))))))

-- what a test that finds 0 or 1 says
is_zero : (i : Inputs) (x : Term) → same_term x zero_term ≡ true → is_true (value i x) ≡ false
is_zero i x e = ap (λ (z : Term). is_true (value i z)) (same_term_is x zero_term e)

is_one : (i : Inputs) (x : Term) → same_term x one_term ≡ true → is_true (value i x) ≡ true
is_one i x e = ap (λ (z : Term). is_true (value i z)) (same_term_is x one_term e)

choose_at : (d a b u v : Bool) → a ≡ u → b ≡ v → cond d u v ≡ cond d a b
choose_at true a b u v e f = sym e
choose_at false a b u v e f = sym f

only : (d : Bool) → d ≡ cond d true false
only true = refl
only false = refl

turned : (d : Bool) → not d ≡ cond d false true
turned true = refl
turned false = refl

both : (d a : Bool) → (d && a) ≡ cond d a false
both true a = refl
both false a = refl

neither : (d a : Bool) → (not d && a) ≡ cond d false a
neither true a = refl
neither false a = refl

pub condition_merged_true : (ts : List Ty) (i : Inputs) → AreInputs ts i → (c x y : Term) → IsOf ts u1 c → IsOf ts u1 x → IsOf ts u1 y
    → is_true (value i (merge_condition c x y)) ≡ cond (is_true (value i c)) (is_true (value i x)) (is_true (value i y))
condition_merged_true ts i g c x y h p q =
    let d = is_true (value i c) in
    let u = is_true (value i x) in
    let v = is_true (value i y) in
    let P : Term → Type 0 = λ z. is_true (value i z) ≡ cond (is_true (value i c)) (is_true (value i x)) (is_true (value i y)) in
    cond_both (same_term x y) x _ P (λ e. always d u v (ap (λ (z : Term). is_true (value i z)) (same_term_is x y e)))
    (λ e. cond_both (same_term x one_term && same_term y zero_term) c _ P
    (λ e. let s = and_parts (same_term x one_term) (same_term y zero_term) e in only d ∙ choose_at d u v true false (is_one i x s.0) (is_zero i y s.1))
    (λ e. cond_both (same_term x zero_term && same_term y one_term) (make_one k.Lnot u1 c) _ P
    (λ e. let s = and_parts (same_term x zero_term) (same_term y one_term) e in lnot_true ts i c h ∙ turned d ∙ choose_at d u v false true (is_zero i x s.0) (is_one i y s.1))
    (λ e. cond_both (same_term y zero_term) (make_two k.Land u1 c x) _ P
    (λ e. land_true ts i c x h p ∙ both d u ∙ choose_at d u v u false refl (is_zero i y e))
    (λ e. cond_both (same_term x zero_term) (make_two k.Land u1 (make_one k.Lnot u1 c) y) (make_mux u1 c x y) P
    (λ e. land_true ts i (make_one k.Lnot u1 c) y (lnot_of ts c h) q ∙ ap (λ (z : Bool). z && v) (lnot_true ts i c h) ∙ neither d v ∙ choose_at d u v false v (is_zero i x e) refl)
    (λ e. ap is_true (subst (λ (z : Ty). value i (make_mux z c x y) ≡ cond d (value i x) (value i y)) p.ty_is (mux_value ts i g (type_of x) c x y p.typed q.typed (common_of ts u1 x y p q)))
    ∙ apart d (value i x) (value i y))))))
  where
    apart : (d : Bool) (m n : ℤ) → is_true (cond d m n) ≡ cond d (is_true m) (is_true n)
    apart true m n = refl
    apart false m n = refl

-- ---- targets
-- the value of one whose condition is 0 gives way
abbrev given : Term → Term → Term → Term → Term → Term
given c cx cy x y = cond (same_term cx zero_term) y (cond (same_term cy zero_term) x (merge c x y))

given_of : (ts : List Ty) (ty : Ty) (c cx cy x y : Term) → IsOf ts u1 c → IsOf ts ty x → IsOf ts ty y → IsOf ts ty (given c cx cy x y)
given_of ts ty c cx cy x y h p q =
    cond_both (same_term cx zero_term) y _ (IsOf ts ty) (λ e. q)
    (λ e. cond_both (same_term cy zero_term) x (merge c x y) (IsOf ts ty) (λ e. p) (λ e. merge_of ts ty c x y h p q))

given_first : (ts : List Ty) (i : Inputs) → AreInputs ts i → (ty : Ty) (c cx cy x y : Term) → IsOf ts ty x → IsOf ts ty y → is_true (value i c) ≡ true → is_true (value i cx) ≡ true
    → value i (given c cx cy x y) ≡ value i x
given_first ts i g ty c cx cy x y p q d e =
    cond_both (same_term cx zero_term) y _ (λ z. value i z ≡ value i x) (λ s. absurd (both_ways (is_true (value i cx)) (is_zero i cx s) e))
    (λ s. cond_both (same_term cy zero_term) x (merge c x y) (λ z. value i z ≡ value i x) (λ s. refl)
    (λ s. merge_value ts i g ty c x y p q ∙ ap (λ (z : Bool). cond z (value i x) (value i y)) d))

given_second : (ts : List Ty) (i : Inputs) → AreInputs ts i → (ty : Ty) (c cx cy x y : Term) → IsOf ts ty x → IsOf ts ty y → is_true (value i c) ≡ false → is_true (value i cy) ≡ true
    → value i (given c cx cy x y) ≡ value i y
given_second ts i g ty c cx cy x y p q d e =
    cond_both (same_term cx zero_term) y _ (λ z. value i z ≡ value i y) (λ s. refl)
    (λ s. cond_both (same_term cy zero_term) x (merge c x y) (λ z. value i z ≡ value i y) (λ s. absurd (both_ways (is_true (value i cy)) (is_zero i cy s) e))
    (λ s. merge_value ts i g ty c x y p q ∙ ap (λ (z : Bool). cond z (value i x) (value i y)) d))

pub entry_merged_of : (ts : List Ty) (ty : Ty) (c : Term) (x y : Entry) → IsOf ts u1 c → IsEntry ts ty x → IsEntry ts ty y → IsEntry ts ty (merge_entry c x y)
entry_merged_of ts ty c x y h p q = record {
  condition = condition_merged_of ts c x.condition y.condition h p.condition q.condition;
  value = given_of ts ty c x.condition y.condition x.value y.value h p.value q.value;
  address = given_of ts u32 c x.condition y.condition x.address y.address h p.address q.address;
}

written : Bool → ℤ → ℤ → Option Write
written d v a = cond d (Some (record { value = v; address = a })) None

written_same : (d e : Bool) (u v a b : ℤ) → d ≡ e → (e ≡ true → u ≡ v) → (e ≡ true → a ≡ b) → written d u a ≡ written e v b
unfolding written
written_same d true u v a b h f g = ap (λ (z : Bool). written z u a) h ∙ ap (λ (z : ℤ). written true z a) (f refl) ∙ ap (λ (z : ℤ). written true v z) (g refl)
written_same d false u v a b h f g = ap (λ (z : Bool). written z u a) h

pub entry_merged_value : (ts : List Ty) (i : Inputs) → AreInputs ts i → (ty : Ty) (c : Term) (x y : Entry) → IsOf ts u1 c → IsEntry ts ty x → IsEntry ts ty y
    → entry_value i (merge_entry c x y) ≡ cond (is_true (value i c)) (entry_value i x) (entry_value i y)
unfolding written
entry_merged_value ts i g ty c x y h p q =
    let m = condition_merged_true ts i g c x.condition y.condition h p.condition q.condition in
    let cx = is_true (value i x.condition) in
    let cy = is_true (value i y.condition) in
    ⊎_elim
    (λ (d : is_true (value i c) ≡ true).
    written_same (is_true (value i (merge_condition c x.condition y.condition))) cx _ _ _ _ (m ∙ ap (λ (z : Bool). cond z cx cy) d)
    (λ e. given_first ts i g ty c x.condition y.condition x.value y.value p.value q.value d e)
    (λ e. given_first ts i g u32 c x.condition y.condition x.address y.address p.address q.address d e)
    ∙ ap (λ (z : Bool). cond z (entry_value i x) (entry_value i y)) (sym d))
    (λ (d : is_true (value i c) ≡ false).
    written_same (is_true (value i (merge_condition c x.condition y.condition))) cy _ _ _ _ (m ∙ ap (λ (z : Bool). cond z cx cy) d)
    (λ e. given_second ts i g ty c x.condition y.condition x.value y.value p.value q.value d e)
    (λ e. given_second ts i g u32 c x.condition y.condition x.address y.address p.address q.address d e)
    ∙ ap (λ (z : Bool). cond z (entry_value i x) (entry_value i y)) (sym d))
    (cases_Bool (is_true (value i c)))

-- ---- states
cons_chosen : {X : Type 0} (d : Bool) (m a b : X) (ms us vs : List X) → m ≡ cond d a b → ms ≡ cond d us vs → m ∷ ms ≡ cond d (a ∷ us) (b ∷ vs)
cons_chosen true m a b ms us vs e f = ap (λ z. z ∷ ms) e ∙ ap (λ z. a ∷ z) f
cons_chosen false m a b ms us vs e f = ap (λ z. z ∷ ms) e ∙ ap (λ z. b ∷ z) f

nil_chosen : {X : Type 0} (d : Bool) → let n : List X = [] in n ≡ cond d [] []
nil_chosen true = refl
nil_chosen false = refl

slots_merged_of : (ts tys : List Ty) (c : Term) (xs ys : List Term) → IsOf ts u1 c → AreOf ts tys xs → AreOf ts tys ys → AreOf ts tys (merge_slots c xs ys)
slots_merged_of ts [] c [] [] h p q = tt
slots_merged_of ts [] c [] (y ∷ ys) h p q = absurd q
slots_merged_of ts [] c (x ∷ xs) ys h p q = absurd p
slots_merged_of ts (ty ∷ tys) c [] ys h p q = absurd p
slots_merged_of ts (ty ∷ tys) c (x ∷ xs) [] h p q = absurd q
slots_merged_of ts (ty ∷ tys) c (x ∷ xs) (y ∷ ys) h p q = (merge_of ts ty c x y h p.0 q.0, slots_merged_of ts tys c xs ys h p.1 q.1)

slots_merged_value : (ts : List Ty) (i : Inputs) → AreInputs ts i → (tys : List Ty) (c : Term) (xs ys : List Term) → AreOf ts tys xs → AreOf ts tys ys
    → map (value i) (merge_slots c xs ys) ≡ cond (is_true (value i c)) (map (value i) xs) (map (value i) ys)
slots_merged_value ts i g [] c [] [] p q = nil_chosen (is_true (value i c))
slots_merged_value ts i g [] c [] (y ∷ ys) p q = absurd q
slots_merged_value ts i g [] c (x ∷ xs) ys p q = absurd p
slots_merged_value ts i g (ty ∷ tys) c [] ys p q = absurd p
slots_merged_value ts i g (ty ∷ tys) c (x ∷ xs) [] p q = absurd q
slots_merged_value ts i g (ty ∷ tys) c (x ∷ xs) (y ∷ ys) p q =
    cons_chosen (is_true (value i c)) (value i (merge c x y)) (value i x) (value i y) (map (value i) (merge_slots c xs ys)) (map (value i) xs) (map (value i) ys)
    (merge_value ts i g ty c x y p.0 q.0) (slots_merged_value ts i g tys c xs ys p.1 q.1)

targets_merged_of : (ts tys : List Ty) (c : Term) (xs ys : List Entry) → IsOf ts u1 c → AreEntries ts tys xs → AreEntries ts tys ys → AreEntries ts tys (merge_targets c xs ys)
targets_merged_of ts [] c [] [] h p q = tt
targets_merged_of ts [] c [] (y ∷ ys) h p q = absurd q
targets_merged_of ts [] c (x ∷ xs) ys h p q = absurd p
targets_merged_of ts (ty ∷ tys) c [] ys h p q = absurd p
targets_merged_of ts (ty ∷ tys) c (x ∷ xs) [] h p q = absurd q
targets_merged_of ts (ty ∷ tys) c (x ∷ xs) (y ∷ ys) h p q = (entry_merged_of ts ty c x y h p.0 q.0, targets_merged_of ts tys c xs ys h p.1 q.1)

targets_merged_value : (ts : List Ty) (i : Inputs) → AreInputs ts i → (tys : List Ty) (c : Term) (xs ys : List Entry) → IsOf ts u1 c → AreEntries ts tys xs → AreEntries ts tys ys
    → map (entry_value i) (merge_targets c xs ys) ≡ cond (is_true (value i c)) (map (entry_value i) xs) (map (entry_value i) ys)
targets_merged_value ts i g [] c [] [] h p q = nil_chosen (is_true (value i c))
targets_merged_value ts i g [] c [] (y ∷ ys) h p q = absurd q
targets_merged_value ts i g [] c (x ∷ xs) ys h p q = absurd p
targets_merged_value ts i g (ty ∷ tys) c [] ys h p q = absurd p
targets_merged_value ts i g (ty ∷ tys) c (x ∷ xs) [] h p q = absurd q
targets_merged_value ts i g (ty ∷ tys) c (x ∷ xs) (y ∷ ys) h p q =
    cons_chosen (is_true (value i c)) (entry_value i (merge_entry c x y)) (entry_value i x) (entry_value i y) (map (entry_value i) (merge_targets c xs ys)) (map (entry_value i) xs) (map (entry_value i) ys)
    (entry_merged_value ts i g ty c x y h p.0 q.0) (targets_merged_value ts i g tys c xs ys h p.1 q.1)

pub merged_of : (f : Frame) (c : Term) (x y : Terms) → IsOf f.targets u1 c → IsState f x → IsState f y → IsState f (merge_terms c x y)
merged_of f c x y h p q = record {
  slots = slots_merged_of f.targets f.slots c x.slots y.slots h p.slots q.slots;
  targets = targets_merged_of f.targets f.targets c x.targets y.targets h p.targets q.targets;
}

numbers_chosen : (d : Bool) (s t u : List ℤ) (a b c : List (Option Write)) → s ≡ cond d t u → a ≡ cond d b c
    → let m : Numbers = record { slots = s; targets = a } in
    let x : Numbers = record { slots = t; targets = b } in
    let y : Numbers = record { slots = u; targets = c } in
    m ≡ cond d x y
numbers_chosen true s t u a b c e f = ap (λ (z : List ℤ). let m : Numbers = record { slots = z; targets = a } in m) e ∙ ap (λ (z : List (Option Write)). let m : Numbers = record { slots = t; targets = z } in m) f
numbers_chosen false s t u a b c e f = ap (λ (z : List ℤ). let m : Numbers = record { slots = z; targets = a } in m) e ∙ ap (λ (z : List (Option Write)). let m : Numbers = record { slots = u; targets = z } in m) f

pub merged_value : (f : Frame) (i : Inputs) → AreInputs f.targets i → (c : Term) (x y : Terms) → IsOf f.targets u1 c → IsState f x → IsState f y
    → denoted i (merge_terms c x y) ≡ cond (is_true (value i c)) (denoted i x) (denoted i y)
merged_value f i g c x y h p q =
    numbers_chosen (is_true (value i c)) _ _ _ _ _ _
    (slots_merged_value f.targets i g f.slots c x.slots y.slots p.slots q.slots)
    (targets_merged_value f.targets i g f.targets c x.targets y.targets h p.targets q.targets)

-- ---- branches
pub branch_of : (f : Frame) (c : Term) (x y : Terms) → IsOf f.targets u1 c → IsState f x → IsState f y → IsState f (branch c x y)
branch_of f (t_const a raw) x y h p q = cond_both (is_true (value_of a raw)) x y (IsState f) (λ e. p) (λ e. q)
branch_of f (t_read l a) x y h p q = merged_of f (t_read l a) x y h p q
branch_of f (t_one l a u) x y h p q = merged_of f (t_one l a u) x y h p q
branch_of f (t_entry n es a u) x y h p q = merged_of f (t_entry n es a u) x y h p q
branch_of f (t_two l a u v) x y h p q = merged_of f (t_two l a u v) x y h p q
branch_of f (t_three l a u v w) x y h p q = merged_of f (t_three l a u v w) x y h p q

pub branch_value : (f : Frame) (i : Inputs) → AreInputs f.targets i → (c : Term) (x y : Terms) → IsOf f.targets u1 c → IsState f x → IsState f y
    → denoted i (branch c x y) ≡ cond (is_true (value i c)) (denoted i x) (denoted i y)
branch_value f i g (t_const a raw) x y h p q = apart (is_true (value_of a raw)) i x y
  where
    apart : (d : Bool) (i : Inputs) (x y : Terms) → denoted i (cond d x y) ≡ cond d (denoted i x) (denoted i y)
    apart true i x y = refl
    apart false i x y = refl
branch_value f i g (t_read l a) x y h p q = merged_value f i g (t_read l a) x y h p q
branch_value f i g (t_one l a u) x y h p q = merged_value f i g (t_one l a u) x y h p q
branch_value f i g (t_entry n es a u) x y h p q = merged_value f i g (t_entry n es a u) x y h p q
branch_value f i g (t_two l a u v) x y h p q = merged_value f i g (t_two l a u v) x y h p q
branch_value f i g (t_three l a u v w) x y h p q = merged_value f i g (t_three l a u v w) x y h p q

-- ---- paths
pub along_of : (ts : List Ty) (p d : Term) → IsOf ts u1 p → IsOf ts u1 d → IsOf ts u1 (along p d)
along_of ts p d h g = cond_both (same_term p one_term) d (make_two k.Land u1 p d) (IsOf ts u1) (λ e. g) (λ e. land_of ts p d h g)

pub along_true : (ts : List Ty) (i : Inputs) (p d : Term) → IsOf ts u1 p → IsOf ts u1 d → is_true (value i (along p d)) ≡ (is_true (value i p) && is_true (value i d))
along_true ts i p d h g =
    cond_both (same_term p one_term) d (make_two k.Land u1 p d) (λ z. is_true (value i z) ≡ (is_true (value i p) && is_true (value i d)))
    (λ e. ap (λ (z : Bool). z && is_true (value i d)) (sym (is_one i p e)))
    (λ e. land_true ts i p d h g)

pub path_of : (ts : List Ty) (p c d : Term) → IsOf ts u1 p → IsOf ts u1 d → IsOf ts u1 (branch_path p c d)
path_of ts p (t_const a raw) d h g = h
path_of ts p (t_read l a) d h g = along_of ts p d h g
path_of ts p (t_one l a u) d h g = along_of ts p d h g
path_of ts p (t_entry n es a u) d h g = along_of ts p d h g
path_of ts p (t_two l a u v) d h g = along_of ts p d h g
path_of ts p (t_three l a u v w) d h g = along_of ts p d h g

-- the path holds in the branch that is taken
pub path_true : (ts : List Ty) (i : Inputs) (p c d : Term) → IsOf ts u1 p → IsOf ts u1 d → is_true (value i p) ≡ true → is_true (value i d) ≡ true → is_true (value i (branch_path p c d)) ≡ true
path_true ts i p (t_const a raw) d h g e l = e
path_true ts i p (t_read _ _) d h g e l = along_true ts i p d h g ∙ ap (λ (z : Bool). z && is_true (value i d)) e ∙ l
path_true ts i p (t_one _ _ _) d h g e l = along_true ts i p d h g ∙ ap (λ (z : Bool). z && is_true (value i d)) e ∙ l
path_true ts i p (t_entry _ _ _ _) d h g e l = along_true ts i p d h g ∙ ap (λ (z : Bool). z && is_true (value i d)) e ∙ l
path_true ts i p (t_two _ _ _ _) d h g e l = along_true ts i p d h g ∙ ap (λ (z : Bool). z && is_true (value i d)) e ∙ l
path_true ts i p (t_three _ _ _ _ _) d h g e l = along_true ts i p d h g ∙ ap (λ (z : Bool). z && is_true (value i d)) e ∙ l
