-- Loads by the places of their terms, in a store that grows.
use Rattle.std.proofs.Common.{◌≡◌, ℕ, ◌<◌, refl, sym, ap, subst, ◌∙◌, List, [], ◌∷◌, ◌++◌, map, append_assoc, Result, Ok, Err}
use Rattle.std.specs.Prelude.{IfOk, OnOk}
use Rattle.std.specs.List.{AllByRecursion}
use Rattle.std.proofs.lemmas.List.{append-nil, map-append}
use Rattle.ix_bits.specs.declared.number.Ty.{Ty}
use Rattle.ix_graph.specs.declared.kind.Kind.TheVariants.{RdMem}
use Rattle.ix_mean.specs.Core.{u32, Expression, x_load}
use Rattle.ix_mean.specs.Terms.{Term, t_two, cast_to, term, Load, expression_loads}
use Rattle.ix_mean.specs.Order.{load_root}
use Rattle.ix_terms.specs.declared.source.Source.{Source}
use Rattle.ix_terms.specs.Stores.{Stock, at, size, Grows, Has}
use Rattle.ix_terms.specs.Places.{IsPlaced, HasTerm, HasLoads}
use Rattle.ix_terms.proofs.Storing.{grown_at}
use Rattle.ix_terms.proofs.Makes.{grows_on, grown_length}
use Rattle.ix_terms.proofs.Placing.{places_kept, below_kept, from_load}

pub loads_nothing : (s : Stock) (l : List ℕ) → HasLoads s l l []
loads_nothing s l = record { more = []; whole = sym (append-nil l); below = tt; are = refl }

both_below : (n : ℕ) (js ks : List ℕ) → AllByRecursion (λ k. k < n) js → AllByRecursion (λ k. k < n) ks → AllByRecursion (λ k. k < n) (js ++ ks)
both_below n [] ks a b = b
both_below n (j ∷ js) ks a b = (a.0, both_below n js ks a.1 b)

abbrev pub loads_grown : (mid new : Stock) (l0 l1 : List ℕ) (us : List Load) → Grows mid new → HasLoads mid l0 l1 us → HasLoads new l0 l1 us
loads_grown mid new l0 l1 us g h = record {
  more = h.more;
  whole = h.whole;
  below = below_kept (size mid) (size new) (grown_length mid new g) h.more h.below;
  are = places_kept mid new g h.more h.below ∙ h.are;
}

pub loads_then : (mid new : Stock) (l0 l1 l2 : List ℕ) (us vs : List Load) → Grows mid new → HasLoads mid l0 l1 us → HasLoads new l1 l2 vs → HasLoads new l0 l2 (us ++ vs)
loads_then mid new l0 l1 l2 us vs g h k =
    let a = loads_grown mid new l0 l1 us g h in
    record {
      more = h.more ++ k.more;
      whole = k.whole ∙ ap (λ (l : List ℕ). l ++ k.more) h.whole ∙ append_assoc l0 h.more k.more;
      below = both_below (size new) h.more k.more a.below k.below;
      are =
          map-append (at new) h.more k.more ∙ ap (λ (ts : List Term). ts ++ map (at new) k.more) a.are ∙ ap (λ (ts : List Term). map load_root us ++ ts) k.are
          ∙ sym (map-append load_root us vs);
    }

-- one more load
pub loads_push : (mid new : Stock) (l0 l1 l2 : List ℕ) (us : List Load) (u : Load) (k : ℕ) → Grows mid new → HasLoads mid l0 l1 us → k < size new → at new k ≡ load_root u → l2 ≡ l1 ++ k ∷ [] → HasLoads new l0 l2 (us ++ u ∷ [])
loads_push mid new l0 l1 l2 us u k g h w i e =
    loads_then mid new l0 l1 l2 us (u ∷ []) g h (record { more = k ∷ []; whole = e; below = (w, tt); are = ap (λ (t : Term). t ∷ []) i })

-- the loads of an expression are the same in a store that has grown
pub loads_on : (f : Source) (old new : Stock) (slots : List ℕ) (p : ℕ) (e : Expression) → Grows old new → IsPlaced f old slots p → expression_loads (map (at new) slots) (at new p) e ≡ expression_loads (map (at old) slots) (at old p) e
loads_on f old new slots p e g h =
    ap (λ (xs : List Term). expression_loads xs (at new p) e) (places_kept old new g slots h.below) ∙ ap (λ (q : Term). expression_loads (map (at old) slots) q e) (grown_at old new p g h.path_below)

pub on_from : {A E : Type 0} (r : Result A E) (P : A → Type 0) (Q : Type 0) → ((a : A) → P a → Q) → IfOk r P → OnOk r Q
on_from (Ok a) P Q f h = f a h
on_from (Err e) P Q f h = h

-- ---- what is owed at each return: e is written as d
pub nothing_at : (s : Stock) (l : List ℕ) (xs : List Term) (q : Term) (e d : Expression) → e ≡ d → expression_loads xs q d ≡ [] → HasLoads s l l (expression_loads xs q e)
nothing_at s l xs q e d i n = subst (HasLoads s l l) (sym (ap (expression_loads xs q) i ∙ n)) (loads_nothing s l)

pub none_told : (s : Stock) (l : List ℕ) (xs : List Term) (q : Term) (e d : Expression) {A E : Type 0} (r : Result A E) → e ≡ d → expression_loads xs q d ≡ [] → OnOk r (HasLoads s l l (expression_loads xs q e))
none_told s l xs q e d (Ok a) i n = nothing_at s l xs q e d i n
none_told s l xs q e d (Err x) i n = tt

pub one_told : (mid new : Stock) (l0 l1 : List ℕ) (xs : List Term) (q : Term) (e d a : Expression) → e ≡ d → expression_loads xs q d ≡ expression_loads xs q a → Grows mid new → HasLoads mid l0 l1 (expression_loads xs q a)
    → HasLoads new l0 l1 (expression_loads xs q e)
one_told mid new l0 l1 xs q e d a i n g h = subst (HasLoads new l0 l1) (sym (ap (expression_loads xs q) i ∙ n)) (loads_grown mid new l0 l1 _ g h)

pub two_told : (f : Source) (old mid low new : Stock) (l0 l1 l2 : List ℕ) (slots : List ℕ) (p : ℕ) (e d a b : Expression) → e ≡ d
    → expression_loads (map (at old) slots) (at old p) d ≡ expression_loads (map (at old) slots) (at old p) a ++ expression_loads (map (at old) slots) (at old p) b
    → IsPlaced f old slots p → Grows old mid → Grows mid low → Grows low new
    → HasLoads mid l0 l1 (expression_loads (map (at old) slots) (at old p) a) → HasLoads low l1 l2 (expression_loads (map (at mid) slots) (at mid p) b)
    → HasLoads new l0 l2 (expression_loads (map (at old) slots) (at old p) e)
two_told f old mid low new l0 l1 l2 slots p e d a b i n s g h k x y =
    subst (HasLoads new l0 l2) (sym (ap (expression_loads (map (at old) slots) (at old p)) i ∙ n))
    (loads_grown low new l0 l2 _ k (loads_then mid low l0 l1 l2 _ _ h x (subst (HasLoads low l1 l2) (loads_on f old mid slots p b g s) y)))

pub three_told : (f : Source) (old mid low end new : Stock) (l0 l1 l2 l3 : List ℕ) (slots : List ℕ) (p : ℕ) (e d a b c : Expression) → e ≡ d
    → expression_loads (map (at old) slots) (at old p) d
    ≡ expression_loads (map (at old) slots) (at old p) a ++ expression_loads (map (at old) slots) (at old p) b ++ expression_loads (map (at old) slots) (at old p) c
    → IsPlaced f old slots p → Grows old mid → Grows mid low → Grows low end → Grows end new
    → HasLoads mid l0 l1 (expression_loads (map (at old) slots) (at old p) a) → HasLoads low l1 l2 (expression_loads (map (at mid) slots) (at mid p) b) → HasLoads end l2 l3 (expression_loads (map (at low) slots) (at low p) c)
    → HasLoads new l0 l3 (expression_loads (map (at old) slots) (at old p) e)
three_told f old mid low end new l0 l1 l2 l3 slots p e d a b c i n s g h k m x y z =
    subst (HasLoads new l0 l3) (sym (ap (expression_loads (map (at old) slots) (at old p)) i ∙ n))
    (loads_grown end new l0 l3 _ m
    (loads_then low end l0 l2 l3 _ _ k (loads_then mid low l0 l1 l2 _ _ h x (subst (HasLoads low l1 l2) (loads_on f old mid slots p b g s) y))
    (subst (HasLoads end l2 l3) (loads_on f old low slots p c (grows_on old mid low g h) s) z)))

pub load_told : (ty : Ty) (f : Source) (old mid new : Stock) (l0 l1 l2 : List ℕ) (slots : List ℕ) (p : ℕ) (e a : Expression) (j n : ℕ) → e ≡ x_load ty a → IsPlaced f old slots p → HasTerm f old mid slots p a j
    → Has mid new n (t_two RdMem ty (cast_to u32 (at mid j)) (at mid p)) → HasLoads mid l0 l1 (expression_loads (map (at old) slots) (at old p) a) → l2 ≡ l1 ++ n ∷ []
    → HasLoads new l0 l2 (expression_loads (map (at old) slots) (at old p) e)
load_told ty f old mid new l0 l1 l2 slots p e a j n i s t h x w =
    let o = from_load ty f old mid new slots p a j n s t h in
    subst (HasLoads new l0 l2) (sym (ap (expression_loads (map (at old) slots) (at old p)) i))
    (loads_push mid new l0 l1 l2 _ (record { ty = ty; address = cast_to u32 (term (map (at old) slots) (at old p) a); condition = at old p }) n h.grows x o.within o.is w)

pub both_ok : {A E : Type 0} (r : Result A E) (P Q S : Type 0) → (P → Q → S) → OnOk r P → OnOk r Q → OnOk r S
both_ok (Ok a) P Q S f h g = f h g
both_ok (Err e) P Q S f h g = tt
