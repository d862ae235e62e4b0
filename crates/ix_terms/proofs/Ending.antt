-- States at places when the store grows.
use Rattle.std.proofs.Common.{◌≡◌, ℕ, zero, suc, ◌<◌, refl, sym, ap, subst, ◌∙◌, arith, Bool, List, [], ◌∷◌, length, map, set}
use Rattle.std.specs.List.{AllByRecursion}
use Rattle.std.proofs.lemmas.List.{map-set, length-map}
use Rattle.ix_bits.specs.declared.number.Ty.{Ty}
use Rattle.ix_mean.specs.Core.{u1, u32, Expression, Statement, st_skip, st_then, st_set, st_write, st_if}
use Rattle.ix_mean.specs.Terms.{Term, Entry, Terms, term, cast_to, run_terms, one_term}
use Rattle.ix_mean.specs.View.{frame_of}
use Rattle.ix_terms.specs.declared.source.Source.{Source}
use Rattle.ix_mean.specs.Typing.{IsTypedExpression, IsTypedStatement, IsTerm, IsOf, AreOf, AreEntries, IsState}
use Rattle.ix_mean.proofs.Running.{run_of}
use Rattle.ix_mean.proofs.Making.{lnot_of, condition_of}
use Rattle.ix_mean.proofs.Merging.{along_of, merged_of}
use Rattle.ix_mean.specs.Terms.{t_const, t_read, t_one, t_entry, t_two, t_three, along, make_one, merge_terms, branch, when, unless, test_term, condition}
use Rattle.std.proofs.Common.{true, false, cond, Result, Ok, Err}
use Rattle.std.specs.Prelude.{OnOk}
use Rattle.ix_bits.specs.Operators.{value_of, is_true}
use Rattle.ix_terms.specs.Places.{IsOperation}
use Rattle.ix_mean.proofs.Expressions.{term_of}
use Rattle.ix_graph.specs.declared.kind.Kind.TheVariants.{Lnot}
use Rattle.ix_terms.specs.declared.targets.Target.{Target}
use Rattle.ix_terms.specs.Stores.{Stock, at, size, Grows, Has}
use Rattle.ix_terms.specs.Places.{IsTermAt, IsPlaced, HasTerm, HasValue, HasLoads}
use Rattle.ix_mean.specs.Terms.{Load, loads}
use Rattle.ix_terms.proofs.Loading.{loads_nothing, loads_then}
use Rattle.std.proofs.Common.{◌++◌, append_assoc}
use Rattle.std.proofs.lemmas.List.{append-nil}
use Rattle.ix_terms.specs.Targets.{entry_at, IsTargetAt, IsBelow}
use Rattle.ix_terms.specs.Ends.{ends_at, IsEnds, HasEnds, IsDoing, IsTest, HasPaths, HasBeside, HasMerged, HasTest, IsCopy, both_ends, first_of, second_of}
use Rattle.ix_terms.specs.declared.branch.Paths.{Paths}
use Rattle.ix_terms.proofs.Storing.{grown_at}
use Rattle.ix_terms.proofs.Makes.{grows_itself, grows_on, grown_length}
use Rattle.ix_terms.proofs.Entries.{entries_kept, targets_kept, target_grown}
use Rattle.ix_terms.specs.Places.{HasAll}
use Rattle.ix_terms.specs.Targets.{HasTargets}
use Rattle.ix_mean.specs.Terms.{merge_slots, merge_targets}
use Rattle.ix_terms.proofs.Placing.{places_kept, below_kept, placed_on, term_on}

of_length : (ts tys : List Ty) (xs : List Term) → AreOf ts tys xs → length xs ≡ length tys
of_length ts [] [] h = refl
of_length ts [] (x ∷ xs) h = absurd h
of_length ts (ty ∷ tys) [] h = absurd h
of_length ts (ty ∷ tys) (x ∷ xs) h = ap (λ (n : ℕ). suc n) (of_length ts tys xs h.1)

entries_length : (ts tys : List Ty) (xs : List Entry) → AreEntries ts tys xs → length xs ≡ length tys
entries_length ts [] [] h = refl
entries_length ts [] (x ∷ xs) h = absurd h
entries_length ts (ty ∷ tys) [] h = absurd h
entries_length ts (ty ∷ tys) (x ∷ xs) h = ap (λ (n : ℕ). suc n) (entries_length ts tys xs h.1)

pub ends_kept : (old new : Stock) (slots : List ℕ) (targets : List Target) → Grows old new → AllByRecursion (λ k. k < size old) slots → AllByRecursion (IsBelow (size old)) targets
    → ends_at new slots targets ≡ ends_at old slots targets
ends_kept old new slots targets g b t =
    ap (λ (xs : List Term). let s : Terms = record { slots = xs; targets = map (entry_at new) targets } in s) (places_kept old new g slots b)
    ∙ ap (λ (xs : List Entry). let s : Terms = record { slots = map (at old) slots; targets = xs } in s) (entries_kept old new g targets t)

pub ends_on : (f : Source) (old new : Stock) (slots : List ℕ) (targets : List Target) (p : ℕ) → Grows old new → IsEnds f old slots targets p → IsEnds f new slots targets p
ends_on f old new slots targets p g h = record {
  placed = placed_on f old new slots p g h.placed;
  below = targets_kept (size old) (size new) (grown_length old new g) targets h.below;
  entries = subst (AreEntries f.types.targets f.types.targets) (sym (entries_kept old new g targets h.below)) h.entries;
  count = h.count;
}

pub state_of : (f : Source) (ts : Stock) (slots : List ℕ) (targets : List Target) (p : ℕ) → IsEnds f ts slots targets p → IsState (frame_of f.types) (ends_at ts slots targets)
state_of f ts slots targets p h = record { slots = h.placed.slots_are; targets = h.entries }

-- what the code owes behind a statement
pub told_ends : (f : Source) (old new : Stock) (slots made : List ℕ) (targets put : List Target) (p : ℕ) (x : Statement) → IsEnds f old slots targets p → IsTypedStatement (frame_of f.types) x → Grows old new
    → AllByRecursion (λ k. k < size new) made → AllByRecursion (IsBelow (size new)) put
    → ends_at new made put ≡ run_terms (at old p) x (ends_at old slots targets) → HasEnds f old new p (run_terms (at old p) x (ends_at old slots targets)) made put
told_ends f old new slots made targets put p x h t g b c e =
    let s = run_of (frame_of f.types) (at old p) h.placed.path x t (ends_at old slots targets) (state_of f old slots targets p h) in
    let o : IsState (frame_of f.types) (ends_at new made put) = subst (IsState (frame_of f.types)) (sym e) s in
    let q = placed_on f old new slots p g h.placed in
    record {
      grows = g;
      is = e;
      ends = record {
        placed = record { tables_are = q.tables_are; below = b; path_below = q.path_below; slots_are = o.slots; path = q.path; count = sym (length-map made (at new)) ∙ of_length f.types.targets f.types.slots (map (at new) made) o.slots };
        below = c;
        entries = o.targets;
        count = sym (length-map put (entry_at new)) ∙ entries_length f.types.targets f.types.targets (map (entry_at new) put) o.targets;
      };
    }

-- ---- one slot
below_set : (n : ℕ) (ks : List ℕ) (i k : ℕ) → AllByRecursion (λ j. j < n) ks → k < n → AllByRecursion (λ j. j < n) (set ks i k)
below_set n [] i k h l = tt
below_set n (j ∷ ks) zero k h l = (l, h.1)
below_set n (j ∷ ks) (suc i) k h l = (h.0, below_set n ks i k h.1 l)

pub slot_set : (f : Source) (old mid new : Stock) (slots : List ℕ) (targets : List Target) (p i j k : ℕ) (ty : Ty) (e : Expression) → IsEnds f old slots targets p → IsTypedStatement (frame_of f.types) (st_set i ty e)
    → HasTerm f old mid slots p e j → Has mid new k (cast_to ty (at mid j)) → HasEnds f old new p (run_terms (at old p) (st_set i ty e) (ends_at old slots targets)) (set slots i k) targets
slot_set f old mid new slots targets p i j k ty e h t a c =
    let g = grows_on old mid new a.has.grows c.grows in
    let l = grown_length old new g in
    told_ends f old new slots (set slots i k) targets targets p (st_set i ty e) h t g
    (below_set (size new) slots i k (below_kept (size old) (size new) l slots h.placed.below) c.within)
    (targets_kept (size old) (size new) l targets h.below)
    (ap (λ (xs : List Term). let s : Terms = record { slots = xs; targets = map (entry_at new) targets } in s)
    (map-set (at new) slots i k ∙ ap (λ (xs : List Term). set xs i (at new k)) (places_kept old new g slots h.placed.below)
    ∙ ap (set (map (at old) slots) i) (c.is ∙ ap (cast_to ty) a.has.is))
    ∙ ap (λ (xs : List Entry). let s : Terms = record { slots = set (map (at old) slots) i (cast_to ty (term (map (at old) slots) (at old p) e)); targets = xs } in s) (entries_kept old new g targets h.below))

-- ---- one target
put_below : (n : ℕ) (es : List Target) (i : ℕ) (e : Target) → AllByRecursion (IsBelow n) es → IsBelow n e → AllByRecursion (IsBelow n) (set es i e)
put_below n [] i e h l = tt
put_below n (x ∷ es) zero e h l = (l, h.1)
put_below n (x ∷ es) (suc i) e h l = (h.0, put_below n es i e h.1 l)

entry_same : (c d v w a b : Term) → c ≡ d → v ≡ w → a ≡ b
    → let x : Entry = record { condition = c; value = v; address = a } in
    let y : Entry = record { condition = d; value = w; address = b } in
    x ≡ y
entry_same c d v w a b e f g =
    ap (λ (z : Term). let x : Entry = record { condition = z; value = v; address = a } in x) e
    ∙ ap (λ (z : Term). let x : Entry = record { condition = d; value = z; address = a } in x) f
    ∙ ap (λ (z : Term). let x : Entry = record { condition = d; value = w; address = z } in x) g

-- a place that holds the term t in a store that has grown from old
pub record Holds (old new : Stock) (n : ℕ) (t : Term) : Type 0 where
  pub grows : Grows old new
  pub within : n < size new
  pub is : at new n ≡ t

pub holds_on : (old mid new : Stock) (n : ℕ) (t : Term) → Grows mid new → Holds old mid n t → Holds old new n t
holds_on old mid new n t g h = record {
  grows = grows_on old mid new h.grows g;
  within = omega (arith, h.within, grown_length mid new g);
  is = grown_at mid new n g h.within ∙ h.is;
}

pub target_put : (f : Source) (old new : Stock) (slots : List ℕ) (targets : List Target) (p i : ℕ) (w : Target) (ty : Ty) (e a : Expression) → IsEnds f old slots targets p → IsTypedStatement (frame_of f.types) (st_write i ty e a)
    → Holds old new w.condition one_term → Holds old new w.value (cast_to ty (term (map (at old) slots) (at old p) e)) → Holds old new w.address (cast_to u32 (term (map (at old) slots) (at old p) a))
    → HasEnds f old new p (run_terms (at old p) (st_write i ty e a) (ends_at old slots targets)) slots (set targets i w)
target_put f old new slots targets p i w ty e a h t c v b =
    let g = c.grows in
    let l = grown_length old new g in
    told_ends f old new slots slots targets (set targets i w) p (st_write i ty e a) h t g
    (below_kept (size old) (size new) l slots h.placed.below)
    (put_below (size new) targets i w (targets_kept (size old) (size new) l targets h.below) (record { condition = c.within; value = v.within; address = b.within }))
    (ap (λ (xs : List Term). let s : Terms = record { slots = xs; targets = map (entry_at new) (set targets i w) } in s) (places_kept old new g slots h.placed.below)
    ∙ ap (λ (xs : List Entry). let s : Terms = record { slots = map (at old) slots; targets = xs } in s)
    (map-set (entry_at new) targets i w ∙ ap (λ (xs : List Entry). set xs i (entry_at new w)) (entries_kept old new g targets h.below)
    ∙ ap (set (map (entry_at old) targets) i) (entry_same _ _ _ _ _ _ c.is v.is b.is)))

-- ---- one statement after another
pub then_ends : (f : Source) (old mid new : Stock) (slots made done : List ℕ) (targets put out : List Target) (p : ℕ) (x y : Statement) → IsEnds f old slots targets p
    → HasEnds f old mid p (run_terms (at old p) x (ends_at old slots targets)) made put
    → HasEnds f mid new p (run_terms (at mid p) y (ends_at mid made put)) done out
    → HasEnds f old new p (run_terms (at old p) y (run_terms (at old p) x (ends_at old slots targets))) done out
then_ends f old mid new slots made done targets put out p x y h g k = record {
  grows = grows_on old mid new g.grows k.grows;
  is = k.is ∙ ap (λ (q : Term). run_terms q y (ends_at mid made put)) (grown_at old mid p g.grows h.placed.path_below) ∙ ap (run_terms (at old p) y) g.is;
  ends = k.ends;
}

pub value_told : (f : Source) (old mid new : Stock) (slots : List ℕ) (p : ℕ) (ty : Ty) (e : Expression) (j k : ℕ) → IsPlaced f old slots p → HasTerm f old mid slots p e j → Has mid new k (cast_to ty (at mid j)) → HasValue f old new slots p ty e k
value_told f old mid new slots p ty e j k h a c =
    let g = grows_on old mid new a.has.grows c.grows in
    record {
      has = record { grows = g; within = c.within; is = c.is ∙ ap (cast_to ty) a.has.is };
      placed = placed_on f old new slots p g h;
    }

pub write_made : (f : Source) (old one two new : Stock) (slots : List ℕ) (targets : List Target) (p i : ℕ) (ty u : Ty) (e a : Expression) (v b c : ℕ) → IsEnds f old slots targets p → IsTypedStatement (frame_of f.types) (st_write i ty e a) → u ≡ u32
    → HasValue f old one slots p u a b → HasValue f one two slots p ty e v → Has two new c one_term
    → HasEnds f old new p (run_terms (at old p) (st_write i ty e a) (ends_at old slots targets)) slots (set targets i (record { condition = c; value = v; address = b }))
write_made f old one two new slots targets p i ty u e a v b c h t x hb hv hc =
    let g1 = hb.has.grows in
    let g2 = hv.has.grows in
    let g3 = hc.grows in
    let g12 = grows_on old one two g1 g2 in
    target_put f old new slots targets p i (record { condition = c; value = v; address = b }) ty e a h t
    (record { grows = grows_on old two new g12 g3; within = hc.within; is = hc.is })
    (holds_on old two new v _ g3 (record {
      grows = g12;
      within = hv.has.within;
      is = hv.has.is ∙ ap (cast_to ty) (term_on f old one slots p e g1 h.placed);
    }))
    (holds_on old one new b _ (grows_on one two new g2 g3) (record {
      grows = g1;
      within = hb.has.within;
      is = hb.has.is ∙ ap (λ (z : Ty). cast_to z (term (map (at old) slots) (at old p) a)) x;
    }))

-- ---- blocks
pub doing_start : (f : Source) (old : Stock) (p : ℕ) (slots : List ℕ) (targets : List Target) (ls : List ℕ) (x y : Statement) → x ≡ y → IsEnds f old slots targets p → IsTypedStatement (frame_of f.types) x
    → IsDoing f old old p slots slots targets targets ls ls x y
doing_start f old p slots targets ls x y e h t = record {
  grows = grows_itself old;
  ends = h;
  typed = subst (IsTypedStatement (frame_of f.types)) e t;
  same = ap (λ (z : Statement). run_terms (at old p) z (ends_at old slots targets)) (sym e);
  done = [];
  has_loads = loads_nothing old ls;
  same_loads = ap (λ (z : Statement). loads (at old p) z (ends_at old slots targets)) (sym e);
}

pub doing_step : (f : Source) (old now new : Stock) (p : ℕ) (slots made done : List ℕ) (targets put out : List Target) (l0 l1 l2 : List ℕ) (x rest y next : Statement) → p < size old
    → IsDoing f old now p slots made targets put l0 l1 x rest → rest ≡ st_then y next
    → HasEnds f now new p (run_terms (at now p) y (ends_at now made put)) done out → HasLoads new l1 l2 (loads (at now p) y (ends_at now made put))
    → IsDoing f old new p slots done targets out l0 l2 x next
doing_step f old now new p slots made done targets put out l0 l1 l2 x rest y next l g e h k =
    let t : IsTypedStatement (frame_of f.types) (st_then y next) = subst (IsTypedStatement (frame_of f.types)) e g.typed in
    let at_p = grown_at old now p g.grows l in
    let state : ends_at new done out ≡ run_terms (at old p) y (ends_at now made put) = h.is ∙ ap (λ (q : Term). run_terms q y (ends_at now made put)) at_p in
    let these : loads (at now p) y (ends_at now made put) ≡ loads (at old p) y (ends_at now made put) = ap (λ (q : Term). loads q y (ends_at now made put)) at_p in
    record {
      grows = grows_on old now new g.grows h.grows;
      ends = h.ends;
      typed = t.1;
      same =
          ap (run_terms (at old p) next) state
          ∙ ap (λ (z : Statement). run_terms (at old p) z (ends_at now made put)) (sym e) ∙ g.same;
      done = g.done ++ loads (at now p) y (ends_at now made put);
      has_loads = loads_then now new l0 l1 l2 g.done _ h.grows g.has_loads k;
      same_loads =
          append_assoc g.done (loads (at now p) y (ends_at now made put)) (loads (at old p) next (ends_at new done out))
          ∙ ap (λ (us : List Load). g.done ++ (us ++ loads (at old p) next (ends_at new done out))) these
          ∙ ap (λ (s : Terms). g.done ++ (loads (at old p) y (ends_at now made put) ++ loads (at old p) next s)) state
          ∙ ap (λ (z : Statement). g.done ++ loads (at old p) z (ends_at now made put)) (sym e) ∙ g.same_loads;
    }

pub doing_end : (f : Source) (old now : Stock) (p : ℕ) (slots made : List ℕ) (targets put : List Target) (l0 l1 : List ℕ) (x rest : Statement) → IsDoing f old now p slots made targets put l0 l1 x rest → rest ≡ st_skip
    → HasEnds f old now p (run_terms (at old p) x (ends_at old slots targets)) made put
doing_end f old now p slots made targets put l0 l1 x rest g e = record {
  grows = g.grows;
  is = ap (λ (z : Statement). run_terms (at old p) z (ends_at now made put)) (sym e) ∙ g.same;
  ends = g.ends;
}

pub doing_loads : (f : Source) (old now : Stock) (p : ℕ) (slots made : List ℕ) (targets put : List Target) (l0 l1 : List ℕ) (x rest : Statement) → IsDoing f old now p slots made targets put l0 l1 x rest → rest ≡ st_skip
    → HasLoads now l0 l1 (loads (at old p) x (ends_at old slots targets))
doing_loads f old now p slots made targets put l0 l1 x rest g e =
    subst (HasLoads now l0 l1)
    (sym (append-nil g.done) ∙ ap (λ (z : Statement). g.done ++ loads (at old p) z (ends_at now made put)) (sym e) ∙ g.same_loads) g.has_loads

-- ---- branches
pub ends_path : (f : Source) (ts : Stock) (slots : List ℕ) (targets : List Target) (p q : ℕ) → IsEnds f ts slots targets p → q < size ts → IsOf f.types.targets u1 (at ts q) → IsEnds f ts slots targets q
ends_path f ts slots targets p q h l o = record {
  placed = record { tables_are = h.placed.tables_are; below = h.placed.below; path_below = l; slots_are = h.placed.slots_are; path = o; count = h.placed.count };
  below = h.below;
  entries = h.entries;
  count = h.count;
}

pub place_term : (f : Source) (ts : Stock) (t : ℕ) → IsTest f ts t → IsTermAt ts t
place_term f ts t h = record { within = h.within; targets = f.types.targets; typed = h.test.typed }

pub path_term : (f : Source) (ts : Stock) (slots : List ℕ) (targets : List Target) (p : ℕ) → IsEnds f ts slots targets p → IsTermAt ts p
path_term f ts slots targets p h = record { within = h.placed.path_below; targets = f.types.targets; typed = h.placed.path.typed }

pub turned_term : (f : Source) (old new : Stock) (t n : ℕ) → IsTest f old t → Has old new n (make_one Lnot u1 (at old t)) → IsTermAt new n
turned_term f old new t n h g = record { within = g.within; targets = f.types.targets; typed = subst (IsTerm f.types.targets) (sym g.is) (lnot_of f.types.targets (at old t) h.test).typed }

pub paths_made : (f : Source) (old one two new : Stock) (slots : List ℕ) (targets : List Target) (p t a n b : ℕ) → IsEnds f old slots targets p → IsTest f old t
    → Has old one a (along (at old p) (at old t)) → Has one two n (make_one Lnot u1 (at one t)) → Has two new b (along (at two p) (at two n))
    → HasPaths f old new slots targets p t (record { first = a; second = b })
paths_made f old one two new slots targets p t a n b h x ha hn hb =
    let g12 = grows_on old one two ha.grows hn.grows in
    let g = grows_on old two new g12 hb.grows in
    let g3 = grows_on one two new hn.grows hb.grows in
    let ea : at new a ≡ along (at old p) (at old t) = grown_at one new a g3 ha.within ∙ ha.is in
    let en : at two n ≡ make_one Lnot u1 (at old t) = hn.is ∙ ap (make_one Lnot u1) (grown_at old one t ha.grows x.within) in
    let eb : at new b ≡ along (at old p) (make_one Lnot u1 (at old t)) =
    hb.is ∙ ap (λ (z : Term). along z (at two n)) (grown_at old two p g12 h.placed.path_below) ∙ ap (along (at old p)) en in
    let s = ends_on f old new slots targets p g h in
    let la : a < size new = omega (arith, ha.within, grown_length one new g3) in
    record {
      grows = g;
      first = ea;
      second = eb;
      on_first = ends_path f new slots targets p a s la (subst (IsOf f.types.targets u1) (sym ea) (along_of f.types.targets (at old p) (at old t) h.placed.path x.test));
      on_second = ends_path f new slots targets p b s hb.within (subst (IsOf f.types.targets u1) (sym eb) (along_of f.types.targets (at old p) (make_one Lnot u1 (at old t)) h.placed.path (lnot_of f.types.targets (at old t) x.test)));
      still = s;
      test = record {
        within = omega (arith, x.within, grown_length old new g);
        test = subst (IsOf f.types.targets u1) (sym (grown_at old new t g x.within)) x.test;
      };
    }

pub test_on : (f : Source) (old new : Stock) (t : ℕ) → Grows old new → IsTest f old t → IsTest f new t
test_on f old new t g x = record {
  within = omega (arith, x.within, grown_length old new g);
  test = subst (IsOf f.types.targets u1) (sym (grown_at old new t g x.within)) x.test;
}

-- ---- both branches
pub told_state : (f : Source) (old new : Stock) (slots made : List ℕ) (targets put : List Target) (p : ℕ) (s : Terms) → IsEnds f old slots targets p → IsState (frame_of f.types) s → Grows old new
    → AllByRecursion (λ k. k < size new) made → AllByRecursion (IsBelow (size new)) put → ends_at new made put ≡ s → HasEnds f old new p s made put
told_state f old new slots made targets put p s h t g b c e =
    let o : IsState (frame_of f.types) (ends_at new made put) = subst (IsState (frame_of f.types)) (sym e) t in
    let q = placed_on f old new slots p g h.placed in
    record {
      grows = g;
      is = e;
      ends = record {
        placed = record { tables_are = q.tables_are; below = b; path_below = q.path_below; slots_are = o.slots; path = q.path; count = sym (length-map made (at new)) ∙ of_length f.types.targets f.types.slots (map (at new) made) o.slots };
        below = c;
        entries = o.targets;
        count = sym (length-map put (entry_at new)) ∙ entries_length f.types.targets f.types.targets (map (entry_at new) put) o.targets;
      };
    }

pub branches_made : (f : Source) (old one two low new : Stock) (slots m1 m2 made : List ℕ) (targets u1s u2s put : List Target) (p t : ℕ) (b : Paths) (x y : Statement) → IsEnds f old slots targets p → IsTest f old t → IsTypedStatement (frame_of f.types) x → IsTypedStatement (frame_of f.types) y
    → HasPaths f old one slots targets p t b
    → HasBeside f one two slots targets b.second b.first (run_terms (at one b.first) x (ends_at one slots targets)) m1 u1s
    → HasBeside f two low slots targets b.second b.second (run_terms (at two b.second) y (ends_at two slots targets)) m2 u2s
    → HasMerged low new (merge_terms (at low t) (ends_at low m1 u1s) (ends_at low m2 u2s)) made put
    → HasEnds f old new p (both_ends (at old p) (at old t) x y (ends_at old slots targets)) made put
branches_made f old one two low new slots m1 m2 made targets u1s u2s put p t b x y h ts tx ty hp hx hy hm =
    let S = ends_at old slots targets in
    let P = at old p in
    let T = at old t in
    let g12 = grows_on old one two hp.grows hx.has.grows in
    let g13 = grows_on old two low g12 hy.has.grows in
    let g = grows_on old low new g13 hm.grows in
    let so = state_of f old slots targets p h in
    let ln = lnot_of f.types.targets T ts.test in
    let s1 = run_of (frame_of f.types) (along P T) (along_of f.types.targets P T h.placed.path ts.test) x tx S so in
    let s2 = run_of (frame_of f.types) (along P (make_one Lnot u1 T)) (along_of f.types.targets P (make_one Lnot u1 T) h.placed.path ln) y ty S so in
    let e1 : ends_at low m1 u1s ≡ run_terms (along P T) x S =
    ends_kept two low m1 u1s hy.has.grows hx.has.ends.placed.below hx.has.ends.below ∙ hx.has.is
    ∙ ap (λ (q : Term). run_terms q x (ends_at one slots targets)) hp.first
    ∙ ap (run_terms (along P T) x) (ends_kept old one slots targets hp.grows h.placed.below h.below) in
    let e2 : ends_at low m2 u2s ≡ run_terms (along P (make_one Lnot u1 T)) y S =
    hy.has.is
    ∙ ap (λ (q : Term). run_terms q y (ends_at two slots targets)) (grown_at one two b.second hx.has.grows hp.on_second.placed.path_below ∙ hp.second)
    ∙ ap (run_terms (along P (make_one Lnot u1 T)) y) (ends_kept old two slots targets g12 h.placed.below h.below) in
    told_state f old new slots made targets put p (both_ends P T x y S) h (merged_of (frame_of f.types) T _ _ ts.test s1 s2) g hm.below hm.targets_below
    (hm.is ∙ ap (λ (z : Term). merge_terms z (ends_at low m1 u1s) (ends_at low m2 u2s)) (grown_at old low t g13 ts.within)
    ∙ ap (λ (z : Terms). merge_terms T z (ends_at low m2 u2s)) e1 ∙ ap (merge_terms T (run_terms (along P T) x S)) e2)

-- ---- what merging asks
slots_terms : (ts tys : List Ty) (xs : Stock) (ks : List ℕ) → AllByRecursion (λ k. k < size xs) ks → AreOf ts tys (map (at xs) ks) → AllByRecursion (IsTermAt xs) ks
slots_terms ts tys xs [] b h = tt
slots_terms ts [] xs (k ∷ ks) b h = absurd h
slots_terms ts (ty ∷ tys) xs (k ∷ ks) b h = (record { within = b.0; targets = ts; typed = h.0.typed }, slots_terms ts tys xs ks b.1 h.1)

targets_terms : (ts tys : List Ty) (xs : Stock) (es : List Target) → AllByRecursion (IsBelow (size xs)) es → AreEntries ts tys (map (entry_at xs) es) → AllByRecursion (IsTargetAt xs) es
targets_terms ts tys xs [] b h = tt
targets_terms ts [] xs (e ∷ es) b h = absurd h
targets_terms ts (ty ∷ tys) xs (e ∷ es) b h = (
  record {
    condition = record { within = b.0.condition; targets = ts; typed = h.0.condition.typed };
    value = record { within = b.0.value; targets = ts; typed = h.0.value.typed };
    address = record { within = b.0.address; targets = ts; typed = h.0.address.typed };
  },
  targets_terms ts tys xs es b.1 h.1,
)

pub ends_terms : (f : Source) (ts : Stock) (slots : List ℕ) (targets : List Target) (p : ℕ) → IsEnds f ts slots targets p → AllByRecursion (IsTermAt ts) slots
ends_terms f ts slots targets p h = slots_terms f.types.targets f.types.slots ts slots h.placed.below h.placed.slots_are

pub ends_targets : (f : Source) (ts : Stock) (slots : List ℕ) (targets : List Target) (p : ℕ) → IsEnds f ts slots targets p → AllByRecursion (IsTargetAt ts) targets
ends_targets f ts slots targets p h = targets_terms f.types.targets f.types.targets ts targets h.below h.entries

pub test_made : (f : Source) (old mid new : Stock) (slots : List ℕ) (targets : List Target) (p a t : ℕ) (c : Expression) → IsEnds f old slots targets p → IsTypedExpression (frame_of f.types) c → HasTerm f old mid slots p c a → Has mid new t (condition (at mid a)) → HasTest f old new slots targets p c t
test_made f old mid new slots targets p a t c h x ha ht =
    let g = grows_on old mid new ha.has.grows ht.grows in
    let e : at new t ≡ test_term (map (at old) slots) (at old p) c = ht.is ∙ ap condition ha.has.is in
    let o = condition_of f.types.targets (term (map (at old) slots) (at old p) c) (term_of (frame_of f.types) (map (at old) slots) (at old p) h.placed.slots_are h.placed.path c x).typed in
    let v = subst (IsOf f.types.targets u1) (sym e) o in
    record {
      has = record { grows = g; within = ht.within; is = e };
      ends = ends_on f old new slots targets p g h;
      test = record { within = ht.within; test = v };
      term = record { within = ht.within; targets = f.types.targets; typed = v.typed };
    }

pub beside_told : (f : Source) (old new : Stock) (slots s1 made : List ℕ) (targets t1 put : List Target) (p q : ℕ) (x : Statement) → IsCopy slots targets s1 t1 → IsEnds f old slots targets q
    → HasEnds f old new p (run_terms (at old p) x (ends_at old s1 t1)) made put → HasBeside f old new slots targets q p (run_terms (at old p) x (ends_at old slots targets)) made put
beside_told f old new slots s1 made targets t1 put p q x c h g = record {
  has = subst (λ (zs : List ℕ). HasEnds f old new p (run_terms (at old p) x (ends_at old zs targets)) made put) c.slots_are (subst (λ (zs : List Target). HasEnds f old new p (run_terms (at old p) x (ends_at old s1 zs)) made put) c.targets_are g);
  still = ends_on f old new slots targets q g.grows h;
}

-- a state from a store in between
pub rebased : (f : Source) (old mid new : Stock) (slots made : List ℕ) (targets put : List Target) (p : ℕ) (F : Term → Terms → Terms) (s : Terms) → IsEnds f old slots targets p → Grows old mid
    → HasEnds f mid new p (F (at mid p) (ends_at mid slots targets)) made put → F (at old p) (ends_at old slots targets) ≡ s → HasEnds f old new p s made put
rebased f old mid new slots made targets put p F s h g k e = record {
  grows = grows_on old mid new g k.grows;
  is = k.is ∙ ap (λ (q : Term). F q (ends_at mid slots targets)) (grown_at old mid p g h.placed.path_below) ∙ ap (F (at old p)) (ends_kept old mid slots targets g h.placed.below h.below) ∙ e;
  ends = k.ends;
}

branch_both : (p t : Term) (x y : Statement) (s : Terms) → IsOperation t → both_ends p t x y s ≡ branch t (run_terms (when p t) x s) (run_terms (unless p t) y s)
branch_both p (t_const ty raw) x y s h = absurd h
branch_both p (t_read _ _) x y s h = refl
branch_both p (t_one _ _ _) x y s h = refl
branch_both p (t_entry _ _ _ _) x y s h = refl
branch_both p (t_two _ _ _ _) x y s h = refl
branch_both p (t_three _ _ _ _ _) x y s h = refl

pub if_both : (f : Source) (old mid new : Stock) (slots made : List ℕ) (targets put : List Target) (p t : ℕ) (c : Expression) (x y : Statement) → IsEnds f old slots targets p → HasTest f old mid slots targets p c t → IsOperation (at mid t)
    → HasEnds f mid new p (both_ends (at mid p) (at mid t) x y (ends_at mid slots targets)) made put → HasEnds f old new p (run_terms (at old p) (st_if c x y) (ends_at old slots targets)) made put
if_both f old mid new slots made targets put p t c x y h g o k =
    let T = test_term (map (at old) slots) (at old p) c in
    rebased f old mid new slots made targets put p (λ q s. both_ends q (at mid t) x y s) _ h g.has.grows k
    (ap (λ (z : Term). both_ends (at old p) z x y (ends_at old slots targets)) g.has.is ∙ branch_both (at old p) T x y (ends_at old slots targets) (subst IsOperation g.has.is o))

branch_one : (p t : Term) (ty : Ty) (raw : ℕ) (d : Bool) (x y : Statement) (s : Terms) → t ≡ t_const ty raw → is_true (value_of ty raw) ≡ d → run_terms p (cond d x y) s ≡ branch t (run_terms (when p t) x s) (run_terms (unless p t) y s)
branch_one p t ty raw true x y s e f = sym (ap (λ (z : Term). branch z (run_terms (when p z) x s) (run_terms (unless p z) y s)) e ∙ ap (λ (b : Bool). cond b (run_terms p x s) (run_terms p y s)) f)
branch_one p t ty raw false x y s e f = sym (ap (λ (z : Term). branch z (run_terms (when p z) x s) (run_terms (unless p z) y s)) e ∙ ap (λ (b : Bool). cond b (run_terms p x s) (run_terms p y s)) f)

pub if_one : (f : Source) (old mid new : Stock) (slots made : List ℕ) (targets put : List Target) (p t : ℕ) (c : Expression) (x y : Statement) (ty : Ty) (raw : ℕ) (d : Bool) → IsEnds f old slots targets p → HasTest f old mid slots targets p c t
    → at mid t ≡ t_const ty raw → is_true (value_of ty raw) ≡ d
    → HasEnds f mid new p (run_terms (at mid p) (cond d x y) (ends_at mid slots targets)) made put → HasEnds f old new p (run_terms (at old p) (st_if c x y) (ends_at old slots targets)) made put
if_one f old mid new slots made targets put p t c x y ty raw d h g e o k =
    rebased f old mid new slots made targets put p (λ q s. run_terms q (cond d x y) s) _ h g.has.grows k
    (branch_one (at old p) (test_term (map (at old) slots) (at old p) c) ty raw d x y (ends_at old slots targets) (sym g.has.is ∙ e) o)

pub targets_on : (old new : Stock) → Grows old new → (es : List Target) → AllByRecursion (IsTargetAt old) es → AllByRecursion (IsTargetAt new) es
targets_on old new g [] h = tt
targets_on old new g (e ∷ es) h = (target_grown old new e g h.0, targets_on old new g es h.1)

pub joined_made : (old mid new : Stock) (s1 s2 a1 a2 made : List ℕ) (t1 t2 b1 b2 put : List Target) (t : ℕ) → t < size old → AllByRecursion (IsBelow (size old)) t1 → AllByRecursion (IsBelow (size old)) t2
    → a1 ≡ s1 → a2 ≡ s2 → b1 ≡ t1 → b2 ≡ t2
    → HasAll old mid made (merge_slots (at old t) (map (at old) a1) (map (at old) a2))
    → HasTargets mid new put (merge_targets (at mid t) (map (entry_at mid) b1) (map (entry_at mid) b2))
    → HasMerged old new (merge_terms (at old t) (ends_at old s1 t1) (ends_at old s2 t2)) made put
joined_made old mid new s1 s2 a1 a2 made t1 t2 b1 b2 put t l c1 c2 ea1 ea2 eb1 eb2 hs ht = record {
  grows = grows_on old mid new hs.grows ht.grows;
  below = below_kept (size mid) (size new) (grown_length mid new ht.grows) made hs.below;
  targets_below = ht.below;
  is =
      ap (λ (xs : List Term). let s : Terms = record { slots = xs; targets = map (entry_at new) put } in s)
      (places_kept mid new ht.grows made hs.below ∙ hs.are ∙ ap (λ (zs : List ℕ). merge_slots (at old t) (map (at old) zs) (map (at old) a2)) ea1 ∙ ap (λ (zs : List ℕ). merge_slots (at old t) (map (at old) s1) (map (at old) zs)) ea2)
      ∙ ap (λ (xs : List Entry). let s : Terms = record { slots = merge_slots (at old t) (map (at old) s1) (map (at old) s2); targets = xs } in s)
      (ht.are ∙ ap (λ (z : Term). merge_targets z (map (entry_at mid) b1) (map (entry_at mid) b2)) (grown_at old mid t hs.grows l)
      ∙ ap (λ (zs : List Target). merge_targets (at old t) (map (entry_at mid) zs) (map (entry_at mid) b2)) eb1 ∙ ap (λ (zs : List Target). merge_targets (at old t) (map (entry_at mid) t1) (map (entry_at mid) zs)) eb2
      ∙ ap (λ (es : List Entry). merge_targets (at old t) es (map (entry_at mid) t2)) (entries_kept old mid hs.grows t1 c1) ∙ ap (merge_targets (at old t) (map (entry_at old) t1)) (entries_kept old mid hs.grows t2 c2));
}

pub on_ok : {A E : Type 0} (r : Result A E) (P Q : Type 0) → (P → Q) → OnOk r P → OnOk r Q
on_ok (Ok a) P Q f h = f h
on_ok (Err e) P Q f h = h

-- the same, over what the code lists, and for a statement that is written as an `if`
pub test_as : (f : Source) (old mid : Stock) (slots s1 : List ℕ) (targets t1 : List Target) (p : ℕ) (c : Expression) (t : ℕ) → s1 ≡ slots → t1 ≡ targets → HasTest f old mid s1 t1 p c t → HasTest f old mid slots targets p c t
test_as f old mid slots s1 targets t1 p c t e g h = subst (λ (zs : List ℕ). HasTest f old mid zs targets p c t) e (subst (λ (zs : List Target). HasTest f old mid s1 zs p c t) g h)

pub one_told : (f : Source) (old mid new : Stock) (slots made : List ℕ) (targets put : List Target) (p t : ℕ) (w z : Statement) (c : Expression) (x y : Statement) (ty : Ty) (raw : ℕ) (d : Bool) → IsEnds f old slots targets p → HasTest f old mid slots targets p c t
    → at mid t ≡ t_const ty raw → is_true (value_of ty raw) ≡ d → w ≡ st_if c x y → z ≡ cond d x y
    → HasEnds f mid new p (run_terms (at mid p) z (ends_at mid slots targets)) made put → HasEnds f old new p (run_terms (at old p) w (ends_at old slots targets)) made put
one_told f old mid new slots made targets put p t w z c x y ty raw d h g e o i j k =
    subst (λ (q : Statement). HasEnds f old new p (run_terms (at old p) q (ends_at old slots targets)) made put) (sym i)
    (if_one f old mid new slots made targets put p t c x y ty raw d h g e o
    (subst (λ (q : Statement). HasEnds f mid new p (run_terms (at mid p) q (ends_at mid slots targets)) made put) j k))

pub both_told : (f : Source) (old mid new : Stock) (slots s1 made : List ℕ) (targets t1 put : List Target) (p t : ℕ) (w : Statement) (c : Expression) (x y : Statement) → IsEnds f old slots targets p → HasTest f old mid slots targets p c t → IsOperation (at mid t)
    → w ≡ st_if c x y → s1 ≡ slots → t1 ≡ targets
    → HasEnds f mid new p (both_ends (at mid p) (at mid t) (first_of w) (second_of w) (ends_at mid s1 t1)) made put → HasEnds f old new p (run_terms (at old p) w (ends_at old slots targets)) made put
both_told f old mid new slots s1 made targets t1 put p t w c x y h g o i es et k =
    let k1 = subst (λ (zs : List ℕ). HasEnds f mid new p (both_ends (at mid p) (at mid t) (first_of w) (second_of w) (ends_at mid zs t1)) made put) es k in
    let k2 = subst (λ (zs : List Target). HasEnds f mid new p (both_ends (at mid p) (at mid t) (first_of w) (second_of w) (ends_at mid slots zs)) made put) et k1 in
    let k3 = subst (λ (q : Statement). HasEnds f mid new p (both_ends (at mid p) (at mid t) (first_of q) (second_of q) (ends_at mid slots targets)) made put) i k2 in
    subst (λ (q : Statement). HasEnds f old new p (run_terms (at old p) q (ends_at old slots targets)) made put) (sym i) (if_both f old mid new slots made targets put p t c x y h g o k3)
