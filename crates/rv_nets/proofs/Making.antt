-- The modules of a design, made and stepped one by one.
use Rattle.std.proofs.Common.{◌≡◌, ◌∙◌, refl, sym, ap, subst, ℕ, zero, suc, pred, ◌+◌, ◌<◌, ◌≤◌, List, [], ◌∷◌, ◌++◌, length, take, drop, Some, arith}
use Rattle.std.specs.Prelude.{slice_get, slice_set}
use Rattle.ix_net.specs.Valid.{IsValid}
use Rattle.ix_net.specs.declared.netlist.Net.{Net}
use Rattle.ix_neteval.specs.State.{first_state}
use Rattle.ix_plan.specs.declared.design.Design.{Design}
use Rattle.ix_plan.specs.declared.design.Plan.{Plan}
use Rattle.ix_ports.specs.Ports.{input_ports}
use Rattle.rv_core.specs.declared.Shape.{Shape}
use Rattle.rv_nets.specs.declared.modules.Place.{Place}
use Rattle.rv_nets.specs.Modules.{Driver, IsStep, AllStep, drivers_from, drivers_of, module_at, own_ports}
use Rattle.rv_nets.specs.Places.{places_from, places_of}
use Rattle.rv_nets.specs.Kept.{AreFitting}
use Rattle.rv_ports.specs.declared.shown.Shown.{Shown}

-- ---- lists

pub dropped : {A : Type 0} (xs : List A) (n : ℕ) (x : A) → slice_get xs n ≡ Some x → drop n xs ≡ x ∷ drop (suc n) xs
dropped [] n x e = cc
dropped (y ∷ xs) zero x e = (let same : y ≡ x = cc in ap (λ v. v ∷ xs) same)
dropped (y ∷ xs) (suc n) x e = dropped xs n x e

joined : {A : Type 0} (a b c : List A) → (a ++ b) ++ c ≡ a ++ (b ++ c)
joined [] b c = refl
joined (x ∷ a) b c = ap (λ l. x ∷ l) (joined a b c)

pub none_behind : {A : Type 0} (a : List A) → a ++ [] ≡ a
none_behind [] = refl
none_behind (x ∷ a) = ap (λ l. x ∷ l) (none_behind a)

pub dropped_all : {A : Type 0} (xs : List A) (n : ℕ) → length xs ≤ n → drop n xs ≡ []
dropped_all [] zero le = refl
dropped_all [] (suc n) le = refl
dropped_all (x ∷ xs) zero le = absurd (omega (arith, le))
dropped_all (x ∷ xs) (suc n) le = dropped_all xs n (omega (arith, le))

set_front : {A : Type 0} (xs : List A) (n : ℕ) (t : A) (after : List A) → n < length xs → take (suc n) (slice_set xs n t) ++ after ≡ take n xs ++ t ∷ after
set_front [] n t after lt = absurd (omega (arith, lt))
set_front (x ∷ xs) zero t after lt = refl
set_front (x ∷ xs) (suc n) t after lt = ap (λ l. x ∷ l) (set_front xs n t after (omega (arith, lt)))

set_back : {A : Type 0} (xs : List A) (n : ℕ) (t : A) → drop (suc n) (slice_set xs n t) ≡ drop (suc n) xs
set_back [] n t = refl
set_back (x ∷ xs) zero t = refl
set_back (x ∷ xs) (suc n) t = set_back xs n t

one_more : {A : Type 0} (n : ℕ) (xs : List A) → drop 1 (drop n xs) ≡ drop (suc n) xs
one_more zero xs = refl
one_more (suc n) [] = refl
one_more (suc n) (x ∷ xs) = one_more n xs

tails : {A : Type 0} (xs ys : List A) (n : ℕ) → drop n xs ≡ drop n ys → drop (suc n) xs ≡ drop (suc n) ys
tails xs ys n e = sym (one_more n xs) ∙ ap (λ l. drop 1 l) e ∙ one_more n ys

-- ---- made

pub as_many : (shape : Shape) (plans : List Plan) (nets : List Net) → AreFitting shape plans nets → length plans ≡ length nets
as_many shape [] [] h = refl
as_many shape [] (net ∷ nets) h = absurd h
as_many shape (p ∷ plans) [] h = absurd h
as_many shape (p ∷ plans) (net ∷ nets) h = ap suc (as_many shape plans nets h.2)

pub fits_at : (shape : Shape) (plans : List Plan) (nets : List Net) → AreFitting shape plans nets → (n : ℕ) (p : Plan) (net : Net) → slice_get plans n ≡ Some p → slice_get nets n ≡ Some net
    → IsValid net × (net.inputs ≡ input_ports shape.rd p.graph.ops p.times)
fits_at shape [] nets h n p net e f = cc
fits_at shape (q ∷ plans) [] h n p net e f = absurd h
fits_at shape (q ∷ plans) (m ∷ nets) h zero p net e f =
    let plan : q ≡ p = cc in
    let same : m ≡ net = cc in
    subst (λ x. IsValid x × (x.inputs ≡ input_ports shape.rd p.graph.ops p.times)) same (h.0, h.1 ∙ ap (λ (x : Plan). input_ports shape.rd x.graph.ops x.times) plan)
fits_at shape (q ∷ plans) (m ∷ nets) h (suc n) p net e f = fits_at shape plans nets h.2 n p net e f

-- one module more
pub made_next : (d : Design) (n : ℕ) (items : List Driver) (p : Plan) (net : Net) (s : Driver) → slice_get d.plans n ≡ Some p → slice_get d.nets n ≡ Some net
    → s ≡ record { driven = module_at d n p; plan = p; state = first_state net } → items ++ drivers_from d n (drop n d.plans) (drop n d.nets) ≡ drivers_of d
    → (items ++ s ∷ []) ++ drivers_from d (n + 1) (drop (n + 1) d.plans) (drop (n + 1) d.nets) ≡ drivers_of d
made_next d n items p net s e f is h =
    let z : n + 1 ≡ suc n = omega arith in
    ap (λ i. (items ++ s ∷ []) ++ drivers_from d i (drop i d.plans) (drop i d.nets)) z
    ∙ joined items (s ∷ []) (drivers_from d (suc n) (drop (suc n) d.plans) (drop (suc n) d.nets))
    ∙ ap (λ v. items ++ v ∷ drivers_from d (suc n) (drop (suc n) d.plans) (drop (suc n) d.nets)) is
    ∙ ap (λ l. items ++ drivers_from d n l (net ∷ drop (suc n) d.nets)) (sym (dropped d.plans n p e))
    ∙ ap (λ l. items ++ drivers_from d n (drop n d.plans) l) (sym (dropped d.nets n net f))
    ∙ h

-- all are made
pub made_all : (d : Design) (n : ℕ) (items : List Driver) → length d.plans ≤ n → items ++ drivers_from d n (drop n d.plans) (drop n d.nets) ≡ drivers_of d → items ≡ drivers_of d
made_all d n items le h = sym (none_behind items) ∙ ap (λ l. items ++ drivers_from d n l (drop n d.nets)) (sym (dropped_all d.plans n le)) ∙ h

-- ---- the places of one module more

pub places_next : (n : ℕ) (drivers : List Driver) (places old : List Place) (s : Driver) (count : ℕ) → slice_get drivers n ≡ Some s → count ≡ length (own_ports s)
    → old ++ places_of n (drop n drivers) ≡ places_of 0 drivers → places ≡ old ++ places_from n 0 count → places ++ places_of (n + 1) (drop (n + 1) drivers) ≡ places_of 0 drivers
places_next n drivers places old s count e c h is =
    let z : n + 1 ≡ suc n = omega arith in
    ap (λ i. places ++ places_of i (drop i drivers)) z
    ∙ ap (λ l. l ++ places_of (suc n) (drop (suc n) drivers)) (is ∙ ap (λ k. old ++ places_from n 0 k) c)
    ∙ joined old (places_from n 0 (length (own_ports s))) (places_of (suc n) (drop (suc n) drivers))
    ∙ ap (λ l. old ++ places_of n l) (sym (dropped drivers n s e))
    ∙ h

pub places_all : (n : ℕ) (drivers : List Driver) (places : List Place) → length drivers ≤ n → places ++ places_of n (drop n drivers) ≡ places_of 0 drivers → places ≡ places_of 0 drivers
places_all n drivers places le h = sym (none_behind places) ∙ ap (λ l. places ++ places_of n l) (sym (dropped_all drivers n le)) ∙ h

-- ---- one step more

-- the others are left, and once they have taken their steps all have
pub record HaveStepped (shown : Shown) (old now : List Driver) (n : ℕ) : Type 0 where
  pub long : length now ≡ length old
  pub rest : drop n now ≡ drop n old
  pub done : (after : List Driver) → AllStep shown (drop n old) after → AllStep shown old (take n now ++ after)

pub stepped_none : (shown : Shown) (old : List Driver) → HaveStepped shown old old 0
stepped_none shown old = record { long = refl; rest = refl; done = λ after h. h }

set_long : {A : Type 0} (xs : List A) (n : ℕ) (t : A) → length (slice_set xs n t) ≡ length xs
set_long [] n t = refl
set_long (x ∷ xs) zero t = refl
set_long (x ∷ xs) (suc n) t = ap suc (set_long xs n t)

pub stepped_next : (shown : Shown) (old now : List Driver) (n : ℕ) (s t : Driver) → HaveStepped shown old now n → n < length now → slice_get now n ≡ Some s → IsStep shown s t
    → HaveStepped shown old (slice_set now n t) (n + 1)
stepped_next shown old now n s t h lt e step = let z : suc n ≡ n + 1 = omega arith in subst (λ i. HaveStepped shown old (slice_set now n t) i) z
    record {
      long = set_long now n t ∙ h.long;
      rest = set_back now n t ∙ tails now old n h.rest;
      done = λ after all.
          let split : drop n old ≡ s ∷ drop (suc n) now = sym h.rest ∙ dropped now n s e in
          let same : drop (suc n) now ≡ drop (suc n) old = tails now old n h.rest in
          let whole : AllStep shown (drop n old) (t ∷ after) = subst (λ l. AllStep shown l (t ∷ after)) (sym (split ∙ ap (λ l. s ∷ l) same)) (step, all) in
          subst (λ l. AllStep shown old l) (sym (set_front now n t after lt)) (h.done (t ∷ after) whole);
    }

pub stepped_all : (shown : Shown) (old now : List Driver) (n : ℕ) → length now ≤ n → HaveStepped shown old now n → AllStep shown old now
stepped_all shown old now n le h =
    let long = h.long in
    let none : drop n old ≡ [] = dropped_all old n (omega (arith, le, long)) in
    subst (λ l. AllStep shown old l) (taken_all now n le) (h.done [] (subst (λ l. AllStep shown l []) (sym none) tt)) where
      taken_all : {A : Type 0} (xs : List A) (n : ℕ) → length xs ≤ n → take n xs ++ [] ≡ xs
      taken_all [] zero le = refl
      taken_all [] (suc n) le = refl
      taken_all (x ∷ xs) zero le = absurd (omega (arith, le))
      taken_all (x ∷ xs) (suc n) le = ap (λ l. x ∷ l) (taken_all xs n (omega (arith, le)))

-- ---- how many there are

pub long_drivers : (d : Design) (n : ℕ) (plans : List Plan) (nets : List Net) → length plans ≡ length nets → length (drivers_from d n plans nets) ≡ length plans
long_drivers d n [] [] e = refl
long_drivers d n [] (net ∷ nets) e = refl
long_drivers d n (p ∷ plans) [] e = cc
long_drivers d n (p ∷ plans) (net ∷ nets) e = ap suc (long_drivers d (suc n) plans nets (ap pred e))
