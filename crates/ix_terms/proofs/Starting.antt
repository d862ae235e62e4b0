-- The start of a behaviour, at places.
use Rattle.std.proofs.Common.{◌≡◌, ℕ, ◌+◌, ◌<◌, ◌≤◌, refl, sym, ap, subst, ◌∙◌, arith, List, [], ◌∷◌, ◌++◌, length, map, get_or, drop, append_assoc}
use Rattle.std.specs.List.{AllByRecursion}
use Rattle.std.proofs.lemmas.List.{map-append, append-nil, drop_all, drop_more, length-map}
use Rattle.ix_bits.specs.declared.number.Ty.{Ty}
use Rattle.ix_mean.specs.Core.{u1, u32, Statement}
use Rattle.ix_mean.specs.Terms.{Term, Terms, Entry, zero_term, one_term, loads, run_terms}
use Rattle.ix_mean.specs.Order.{load_root}
use Rattle.ix_mean.specs.Typing.{IsOf, IsState}
use Rattle.ix_mean.specs.Effects.{zero_of_type, no_entry, start, effect_terms}
use Rattle.ix_mean.specs.View.{frame_of}
use Rattle.ix_mean.proofs.Making.{one_of}
use Rattle.ix_mean.proofs.Effecting.{start_of}
use Rattle.ix_terms.specs.declared.source.Source.{Source}
use Rattle.ix_terms.specs.declared.targets.Target.{Target}
use Rattle.ix_terms.specs.declared.run.Ends.{Ends}
use Rattle.ix_terms.specs.declared.effect.Effect.{Effect}
use Rattle.ix_terms.specs.Stores.{Stock, at, size, stock_of, Grows, Has}
use Rattle.ix_terms.specs.Places.{HasAll, HasLoads}
use Rattle.ix_terms.specs.Targets.{entry_at, IsBelow, HasEntry, HasTargets}
use Rattle.ix_terms.specs.Ends.{ends_at, IsEnds, HasEnds}
use Rattle.ix_terms.specs.Effected.{HasStart, HasEffect}
use Rattle.ix_terms.proofs.Storing.{grown_at}
use Rattle.ix_terms.proofs.Makes.{grows_itself, grows_on, grown_length}
use Rattle.ix_terms.proofs.Placing.{places_kept, below_kept, below_push}
use Rattle.ix_terms.proofs.Entries.{entries_kept, targets_kept, entry_is}

-- ---- slots, one by one
pub record IsStarting (old now : Stock) (types : List Ty) (out : List ℕ) (k : ℕ) : Type 0 where
  pub grows : Grows old now
  pub below : AllByRecursion (λ j. j < size now) out
  pub are : map (at now) out ++ map zero_of_type (drop k types) ≡ map zero_of_type types

pub starting_first : (old : Stock) (types : List Ty) → IsStarting old old types [] 0
starting_first old types = record { grows = grows_itself old; below = tt; are = refl }

pub starting_step : (old now new : Stock) (types : List Ty) (out made : List ℕ) (k m : ℕ) (ty : Ty) → k < length types → ty ≡ get_or types k ty → IsStarting old now types out k → Has now new m (zero_of_type ty)
    → made ≡ out ++ m ∷ [] → IsStarting old new types made (k + 1)
starting_step old now new types out made k m ty l i g h e = record {
  grows = grows_on old now new g.grows h.grows;
  below = subst (AllByRecursion (λ j. j < size new)) (sym e) (below_push (size new) out m (below_kept (size now) (size new) (grown_length now new h.grows) out g.below) h.within);
  are =
      ap (λ (zs : List ℕ). map (at new) zs ++ map zero_of_type (drop (k + 1) types)) e
      ∙ ap (λ (ts : List Term). ts ++ map zero_of_type (drop (k + 1) types)) (map-append (at new) out (m ∷ []))
      ∙ append_assoc (map (at new) out) (at new m ∷ []) (map zero_of_type (drop (k + 1) types))
      ∙ ap (λ (ts : List Term). ts ++ (at new m ∷ map zero_of_type (drop (k + 1) types))) (places_kept now new h.grows out g.below)
      ∙ ap (λ (t : Term). map (at now) out ++ (t ∷ map zero_of_type (drop (k + 1) types))) (h.is ∙ ap zero_of_type i)
      ∙ ap (λ (ys : List Ty). map (at now) out ++ map zero_of_type ys) (sym (drop_more types k ty l))
      ∙ g.are;
}

pub starting_end : (old now : Stock) (types : List Ty) (out : List ℕ) (k : ℕ) → length types ≤ k → IsStarting old now types out k → HasAll old now out (map zero_of_type types)
starting_end old now types out k l g = record {
  grows = g.grows;
  below = g.below;
  are = sym (append-nil (map (at now) out)) ∙ ap (λ (ys : List Ty). map (at now) out ++ map zero_of_type ys) (sym (drop_all k types l)) ∙ g.are;
}

-- ---- targets, one by one
pub unwritten_made : (old one two new : Stock) (ty u : Ty) (c v a : ℕ) → u ≡ u32 → Has old one c zero_term → Has one two v (zero_of_type ty) → Has two new a (zero_of_type u)
    → HasEntry old new (record { condition = c; value = v; address = a }) (no_entry ty)
unwritten_made old one two new ty u c v a e hc hv ha =
    let g = grows_on one two new hv.grows ha.grows in
    record {
      grows = grows_on old one new hc.grows g;
      below = record {
        condition = omega (arith, hc.within, grown_length one new g);
        value = omega (arith, hv.within, grown_length two new ha.grows);
        address = ha.within;
      };
      is = entry_is _ _ _ _ _ _ (grown_at one new c g hc.within ∙ hc.is) (grown_at two new v ha.grows hv.within ∙ hv.is) (ha.is ∙ ap zero_of_type e);
    }

pub record IsUnwritten (old now : Stock) (types : List Ty) (out : List Target) (k : ℕ) : Type 0 where
  pub grows : Grows old now
  pub below : AllByRecursion (IsBelow (size now)) out
  pub are : map (entry_at now) out ++ map no_entry (drop k types) ≡ map no_entry types

pub unwritten_first : (old : Stock) (types : List Ty) → IsUnwritten old old types [] 0
unwritten_first old types = record { grows = grows_itself old; below = tt; are = refl }

push_below : (n : ℕ) (es : List Target) (t : Target) → AllByRecursion (IsBelow n) es → IsBelow n t → AllByRecursion (IsBelow n) (es ++ t ∷ [])
push_below n [] t h l = (l, tt)
push_below n (e ∷ es) t h l = (h.0, push_below n es t h.1 l)

pub unwritten_step : (old now new : Stock) (types : List Ty) (out made : List Target) (k : ℕ) (m : Target) (ty : Ty) → k < length types → ty ≡ get_or types k ty → IsUnwritten old now types out k → HasEntry now new m (no_entry ty)
    → made ≡ out ++ m ∷ [] → IsUnwritten old new types made (k + 1)
unwritten_step old now new types out made k m ty l i g h e = record {
  grows = grows_on old now new g.grows h.grows;
  below = subst (AllByRecursion (IsBelow (size new))) (sym e) (push_below (size new) out m (targets_kept (size now) (size new) (grown_length now new h.grows) out g.below) h.below);
  are =
      ap (λ (zs : List Target). map (entry_at new) zs ++ map no_entry (drop (k + 1) types)) e
      ∙ ap (λ (ts : List Entry). ts ++ map no_entry (drop (k + 1) types)) (map-append (entry_at new) out (m ∷ []))
      ∙ append_assoc (map (entry_at new) out) (entry_at new m ∷ []) (map no_entry (drop (k + 1) types))
      ∙ ap (λ (ts : List Entry). ts ++ (entry_at new m ∷ map no_entry (drop (k + 1) types))) (entries_kept now new h.grows out g.below)
      ∙ ap (λ (t : Entry). map (entry_at now) out ++ (t ∷ map no_entry (drop (k + 1) types))) (h.is ∙ ap no_entry i)
      ∙ ap (λ (ys : List Ty). map (entry_at now) out ++ map no_entry ys) (sym (drop_more types k ty l))
      ∙ g.are;
}

pub unwritten_end : (old now : Stock) (types : List Ty) (out : List Target) (k : ℕ) → length types ≤ k → IsUnwritten old now types out k → HasTargets old now out (map no_entry types)
unwritten_end old now types out k l g = record {
  grows = g.grows;
  below = g.below;
  are = sym (append-nil (map (entry_at now) out)) ∙ ap (λ (ys : List Ty). map (entry_at now) out ++ map no_entry ys) (sym (drop_all k types l)) ∙ g.are;
}

-- ---- the start
pub started : (f : Source) (old mid new : Stock) (p : ℕ) (slots : List ℕ) (targets : List Target) (ys zs : List Ty) → ys ≡ f.types.slots → zs ≡ f.types.targets → HasStart f old p → HasAll old mid slots (map zero_of_type ys)
    → HasTargets mid new targets (map no_entry zs)
    → (g : Grows old new) × (at new p ≡ one_term) × (ends_at new slots targets ≡ start (frame_of f.types)) × IsEnds f new slots targets p
started f old mid new p slots targets ys zs ey ez h a b =
    let g = grows_on old mid new a.grows b.grows in
    let path : at new p ≡ one_term = grown_at old new p g h.within ∙ h.is in
    let xs : map (at new) slots ≡ map zero_of_type f.types.slots = places_kept mid new b.grows slots a.below ∙ a.are ∙ ap (map zero_of_type) ey in
    let es : map (entry_at new) targets ≡ map no_entry f.types.targets = b.are ∙ ap (map no_entry) ez in
    let same : ends_at new slots targets ≡ start (frame_of f.types) =
    ap (λ (z : List Term). let s : Terms = record { slots = z; targets = map (entry_at new) targets } in s) xs
    ∙ ap (λ (z : List Entry). let s : Terms = record { slots = map zero_of_type f.types.slots; targets = z } in s) es in
    let state : IsState (frame_of f.types) (ends_at new slots targets) = subst (IsState (frame_of f.types)) (sym same) (start_of (frame_of f.types)) in
    let longs : length slots ≡ length f.types.slots = sym (length-map slots (at new)) ∙ ap (λ (z : List Term). length z) xs ∙ length-map f.types.slots zero_of_type in
    let longt : length targets ≡ length f.types.targets = sym (length-map targets (entry_at new)) ∙ ap (λ (z : List Entry). length z) es ∙ length-map f.types.targets no_entry in (
      g,
      path,
      same,
      record {
        placed = record {
          tables_are = g.tables ∙ h.tables_are;
          below = below_kept (size mid) (size new) (grown_length mid new b.grows) slots a.below;
          path_below = omega (arith, h.within, grown_length old new g);
          slots_are = state.slots;
          path = subst (IsOf f.types.targets u1) (sym path) (one_of f.types.targets);
          count = longs;
        };
        below = b.below;
        entries = state.targets;
        count = longt;
      },
    )

-- ---- the effect
pub effect_told : (f : Source) (old mid new : Stock) (p : ℕ) (s1 s2 : List ℕ) (t1 t2 : List Target) (l2 : List ℕ) (x : Statement) → at mid p ≡ one_term → ends_at mid s1 t1 ≡ start (frame_of f.types) → IsEnds f mid s1 t1 p
    → HasEnds f mid new p (run_terms (at mid p) x (ends_at mid s1 t1)) s2 t2 → HasLoads new [] l2 (loads (at mid p) x (ends_at mid s1 t1))
    → (new.tables ≡ f.tables) × AllByRecursion (λ k. k < size new) l2 × (map (at new) l2 ≡ map load_root (loads one_term x (start (frame_of f.types)))) × AllByRecursion (IsBelow (size new)) t2
    × (map (entry_at new) t2 ≡ (effect_terms (frame_of f.types) x).targets)
effect_told f old mid new p s1 s2 t1 t2 l2 x e i h a b =
    let more : l2 ≡ b.more = b.whole in
    let whole = a.is ∙ ap (λ (q : Term). run_terms q x (ends_at mid s1 t1)) e ∙ ap (run_terms one_term x) i in (
      a.grows.tables ∙ h.placed.tables_are,
      subst (AllByRecursion (λ k. k < size new)) (sym more) b.below,
      ap (map (at new)) more ∙ b.are ∙ ap (λ (q : Term). map load_root (loads q x (ends_at mid s1 t1))) e ∙ ap (λ (s : Terms). map load_root (loads one_term x s)) i,
      a.ends.below,
      ap (λ (s : Terms). s.targets) whole,
    )

pub effect_made : (f : Source) (mid : Stock) (p : ℕ) (b : Ends) (l0 : List ℕ) (s2 : List ℕ) (e : Effect) (x : Statement) → at mid p ≡ one_term → ends_at mid b.slots.items b.targets.items ≡ start (frame_of f.types)
    → IsEnds f mid b.slots.items b.targets.items p → l0 ≡ [] → HasEnds f mid (stock_of e.store) p (run_terms (at mid p) x (ends_at mid b.slots.items b.targets.items)) s2 e.targets.items
    → HasLoads (stock_of e.store) l0 e.loads.items (loads (at mid p) x (ends_at mid b.slots.items b.targets.items)) → HasEffect f x e
effect_made f mid p b l0 s2 e x i j h n a k =
    let r = effect_told f mid mid (stock_of e.store) p b.slots.items s2 b.targets.items e.targets.items e.loads.items x i j h a (subst (λ (l : List ℕ). HasLoads (stock_of e.store) l e.loads.items (loads (at mid p) x (ends_at mid b.slots.items b.targets.items))) n k) in
    record { tables_are = r.0; loads_below = r.1; loads_are = r.2; targets_below = r.3; targets_are = r.4 }

-- ---- a copy, element by element
pub copy_step : {X : Type 0} (xs out made : List X) (k : ℕ) (c x : X) → k < length xs → x ≡ get_or xs k x → out ++ drop k xs ≡ xs → c ≡ x → made ≡ out ++ c ∷ [] → made ++ drop (k + 1) xs ≡ xs
copy_step xs out made k c x l i g e f =
    ap (λ ys. ys ++ drop (k + 1) xs) f ∙ append_assoc out (c ∷ []) (drop (k + 1) xs) ∙ ap (λ z. out ++ (z ∷ drop (k + 1) xs)) (e ∙ i) ∙ ap (λ ys. out ++ ys) (sym (drop_more xs k x l)) ∙ g

pub copy_end : {X : Type 0} (xs out : List X) (k : ℕ) → length xs ≤ k → out ++ drop k xs ≡ xs → out ≡ xs
copy_end xs out k l g = sym (append-nil out) ∙ ap (λ ys. out ++ ys) (sym (drop_all k xs l)) ∙ g
