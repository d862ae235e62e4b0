-- What the operations of a behaviour are: typed subterms with their loads and tables, and writes of targets.
use Rattle.std.proofs.Common.{◌≡◌, refl, sym, ap, subst, ◌∙◌, ◌⊎◌, inl, inr, ⊎_elim, ℕ, zero, suc, ◌+◌, arith, Bool, true, false, cond, List, [], ◌∷◌, ◌++◌, map, Some}
use Rattle.std.specs.Prelude.{slice_get}
use Rattle.std.specs.List.{flat_map}
use Rattle.std.proofs.lemmas.Bool.{cond_both}
use Rattle.ix_bits.specs.declared.number.Ty.{Ty}
use Rattle.ix_bits.specs.Operators.{value_of, is_true}
use Rattle.ix_graph.specs.declared.kind.Kind.TheVariants as k
use Rattle.ix_tree.specs.declared.extension.Table.{Table}
use Rattle.ix_mean.specs.Core.{u1, Expression, x_const, x_slot, x_read, x_load, x_one, x_cast, x_entry, x_two, x_choose, Statement, st_skip, st_then, st_set, st_write, st_if}
use Rattle.ix_mean.specs.Terms.{Term, t_const, t_read, t_one, t_entry, t_two, t_three, same_term, zero_term, one_term, Entry, Terms, when, unless, test_term, run_terms, Load, expression_loads, branch_loads, loads}
use Rattle.ix_mean.specs.Order.{postorder, Among, operations, load_root, write_root, write_roots, roots}
use Rattle.ix_mean.specs.Typing.{Frame, IsTypedStatement, IsTerm, IsEntry, AreEntries}
use Rattle.ix_mean.specs.Effects.{start, effect_terms}
use Rattle.ix_mean.proofs.Making.{one_of}
use Rattle.ix_mean.proofs.Effecting.{start_of, effect_typed}
use Rattle.ix_mean.proofs.Ordering.{among_left, among_either, operations_law}
use Rattle.ix_behaviour.specs.Accesses.{IsAccessType, LoadsAreTyped, AccessesAreTyped}
use Rattle.ix_behaviour.specs.Tables.{TablesAreRead}
use Rattle.ix_flow.proofs.Sounding.{AreLoads, loads_typed}
use Rattle.ix_graph_laws.proofs.Made.{Made, AllLoads, EntryMade, EntriesMade, LoadsMade, run_made, loads_made, start_made}

-- ---- each load has the type of an access
abbrev HasAccess : Load → Type 0
HasAccess l = IsAccessType l.ty

abbrev HaveAccess : List Load → Type 0
HaveAccess [] = Unit {0}
HaveAccess (l ∷ ls) = HasAccess l × HaveAccess ls

both_access : (xs ys : List Load) → HaveAccess xs → HaveAccess ys → HaveAccess (xs ++ ys)
both_access [] ys h g = g
both_access (x ∷ xs) ys h g = (h.0, both_access xs ys h.1 g)

expression_access : (xs : List Term) (p : Term) (e : Expression) → LoadsAreTyped e → HaveAccess (expression_loads xs p e)
expression_access xs p (x_const ty raw) h = tt
expression_access xs p (x_slot n ty) h = tt
expression_access xs p (x_read kind ty) h = tt
expression_access xs p (x_load ty a) h = both_access (expression_loads xs p a) _ (expression_access xs p a h.1) (h.0, tt)
expression_access xs p (x_one kind ty a) h = expression_access xs p a h
expression_access xs p (x_cast ty a) h = expression_access xs p a h
expression_access xs p (x_entry n es ty a) h = expression_access xs p a h
expression_access xs p (x_two op ty a b) h = both_access (expression_loads xs p a) (expression_loads xs p b) (expression_access xs p a h.0) (expression_access xs p b h.1)
expression_access xs p (x_choose ty c a b) h =
    both_access (expression_loads xs p c ++ expression_loads xs p a) (expression_loads xs p b)
    (both_access (expression_loads xs p c) (expression_loads xs p a) (expression_access xs p c h.0) (expression_access xs p a h.1)) (expression_access xs p b h.2)

branch_access : (c : Term) (xs ys : List Load) → HaveAccess xs → HaveAccess ys → HaveAccess (branch_loads c xs ys)
branch_access (t_const a raw) xs ys h g = cond_both (is_true (value_of a raw)) xs ys HaveAccess (λ e. h) (λ e. g)
branch_access (t_read _ _) xs ys h g = both_access xs ys h g
branch_access (t_one _ _ _) xs ys h g = both_access xs ys h g
branch_access (t_entry _ _ _ _) xs ys h g = both_access xs ys h g
branch_access (t_two _ _ _ _) xs ys h g = both_access xs ys h g
branch_access (t_three _ _ _ _ _) xs ys h g = both_access xs ys h g

loads_access : (p : Term) (x : Statement) (s : Terms) → AccessesAreTyped x → HaveAccess (loads p x s)
loads_access p st_skip s h = tt
loads_access p (st_then x y) s h = both_access (loads p x s) (loads p y (run_terms p x s)) (loads_access p x s h.0) (loads_access p y (run_terms p x s) h.1)
loads_access p (st_set n ty e) s h = expression_access s.slots p e h
loads_access p (st_write n ty e a) s h = both_access (expression_loads s.slots p a) (expression_loads s.slots p e) (expression_access s.slots p a h.2) (expression_access s.slots p e h.1)
loads_access p (st_if c x y) s h =
    let t = test_term s.slots p c in
    both_access (expression_loads s.slots p c) _ (expression_access s.slots p c h.0)
    (branch_access t (loads (when p t) x s) (loads (unless p t) y s) (loads_access (when p t) x s h.1) (loads_access (unless p t) y s h.2))

-- ---- each load is a root
abbrev pub IsRootLoad : List Load → Ty → Term → Term → Type 0
IsRootLoad ls ty a c = IsAccessType ty × Among (map load_root ls) (t_two k.RdMem ty a c)

root_loads : (ts : List Table) (all ls : List Load) → ((t : Term) → Among (map load_root ls) t → Among (map load_root all) t) → HaveAccess ls → AllLoads ts (IsRootLoad all) ls
root_loads ts all [] h g = tt
root_loads ts all (l ∷ ls) h g = ((g.0, h (load_root l) (inl refl)), root_loads ts all ls (λ t m. h t (inr m)) g.1)

-- ---- the write of a target that may be written
pub record IsWriteOf (ts : List Table) (ls : List Load) (types tys : List Ty) (es : List Entry) (n : ℕ) (t : Term) : Type 0 where
  pub place : ℕ
  pub entry : Entry
  pub ty : Ty
  pub is : t ≡ write_root (n + place) entry
  pub there : slice_get es place ≡ Some entry
  pub kept : same_term entry.condition zero_term ≡ false
  pub ty_is : slice_get tys place ≡ Some ty
  pub typed : IsEntry types ty entry
  pub made : EntryMade ts (IsRootLoad ls) entry

writes_in : (ts : List Table) (ls : List Load) (types tys : List Ty) (es : List Entry) (n : ℕ) (t : Term) → AreEntries types tys es → EntriesMade ts (IsRootLoad ls) es → Among (write_roots n es) t
    → IsWriteOf ts ls types tys es n t
writes_in ts ls types [] [] n t h g m = absurd m
writes_in ts ls types [] (e ∷ es) n t h g m = absurd h
writes_in ts ls types (ty ∷ tys) [] n t h g m = absurd h
writes_in ts ls types (ty ∷ tys) (e ∷ es) n t h g m = by (same_term e.condition zero_term) refl m (λ l. writes_in ts ls types tys es (suc n) t h.1 g.1 l)
  where
    later : IsWriteOf ts ls types tys es (suc n) t → IsWriteOf ts ls types (ty ∷ tys) (e ∷ es) n t
    later r = record {
      place = suc r.place;
      entry = r.entry;
      ty = r.ty;
      is = r.is ∙ ap (λ (j : ℕ). write_root j r.entry) (let e : suc n + r.place ≡ n + suc r.place = omega arith in e);
      there = r.there;
      kept = r.kept;
      ty_is = r.ty_is;
      typed = r.typed;
      made = r.made;
    }

    here : same_term e.condition zero_term ≡ false → t ≡ write_root n e → IsWriteOf ts ls types (ty ∷ tys) (e ∷ es) n t
    here f s = record {
      place = 0;
      entry = e;
      ty = ty;
      is = s ∙ ap (λ (j : ℕ). write_root j e) (let e : n ≡ n + 0 = omega arith in e);
      there = refl;
      kept = f;
      ty_is = refl;
      typed = h.0;
      made = g.0;
    }

    by : (b : Bool) → same_term e.condition zero_term ≡ b → Among (cond b (write_roots (suc n) es) (write_root n e ∷ write_roots (suc n) es)) t
        → (Among (write_roots (suc n) es) t → IsWriteOf ts ls types tys es (suc n) t) → IsWriteOf ts ls types (ty ∷ tys) (e ∷ es) n t
    by true f l r = later (r l)
    by false f l r = ⊎_elim (λ (s : t ≡ write_root n e). here f s) (λ (o : Among (write_roots (suc n) es) t). later (r o)) l

-- ---- subterms
-- a typed term with its loads and tables
pub record IsInner (ts : List Table) (ls : List Load) (types : List Ty) (t : Term) : Type 0 where
  pub typed : IsTerm types t
  pub made : Made ts (IsRootLoad ls) t

only_last : (us : List Term) (t u : Term) (P : Type 0) → (Among us u → P) → (u ≡ t → P) → Among (us ++ t ∷ []) u → P
only_last us t u P f g m = ⊎_elim f (λ (b : Among (t ∷ []) u). ⊎_elim g (λ (no : ⊥). absurd no) b) (among_either us (t ∷ []) u m)

module _ (ts : List Table) (ls : List Load) (types : List Ty) where
  itself : (t u : Term) → IsInner ts ls types t → u ≡ t → IsInner ts ls types u
  itself t u h e = subst (IsInner ts ls types) (sym e) h

  pub inner_in : (t u : Term) → IsInner ts ls types t → Among (postorder t) u → IsInner ts ls types u
  inner_in (t_const ty raw) u h m = absurd m
  inner_in (t_read kind ty) u h m = ⊎_elim (λ (e : u ≡ t_read kind ty). itself (t_read kind ty) u h e) (λ (no : ⊥). absurd no) m
  inner_in (t_one kind ty a) u h m =
      only_last (postorder a) (t_one kind ty a) u _ (λ n. inner_in a u (record { typed = h.typed.0; made = h.made }) n) (λ e. itself (t_one kind ty a) u h e) m
  inner_in (t_entry n es ty a) u h m =
      only_last (postorder a) (t_entry n es ty a) u _ (λ l. inner_in a u (record { typed = h.typed.0; made = h.made.1 }) l) (λ e. itself (t_entry n es ty a) u h e) m
  inner_in (t_two kind ty a b) u h m =
      only_last (postorder a ++ postorder b) (t_two kind ty a b) u _
      (λ n. ⊎_elim (λ (l : Among (postorder a) u). inner_in a u (record { typed = h.typed.0; made = h.made.1 }) l)
      (λ (r : Among (postorder b) u). inner_in b u (record { typed = h.typed.1; made = h.made.2 }) r) (among_either (postorder a) (postorder b) u n))
      (λ e. itself (t_two kind ty a b) u h e) m
  inner_in (t_three kind ty a b c) u h m =
      only_last (postorder a ++ postorder b ++ postorder c) (t_three kind ty a b c) u _
      (λ n. ⊎_elim
      (λ (w : Among (postorder a ++ postorder b) u). ⊎_elim (λ (l : Among (postorder a) u). inner_in a u (record { typed = h.typed.0; made = h.made.0 }) l)
      (λ (r : Among (postorder b) u). inner_in b u (record { typed = h.typed.1; made = h.made.1 }) r) (among_either (postorder a) (postorder b) u w))
      (λ (r : Among (postorder c) u). inner_in c u (record { typed = h.typed.2; made = h.made.2 }) r) (among_either (postorder a ++ postorder b) (postorder c) u n))
      (λ e. itself (t_three kind ty a b c) u h e) m

  -- ---- roots
  -- an operation: a typed subterm, or a write
  abbrev pub IsOperationOf : List Entry → Term → Type 0
  IsOperationOf es t = IsInner ts ls types t ⊎ IsWriteOf ts ls types types es 0 t

  load_in : (all : List Load) (es : List Entry) (u : Term) → AreLoads types all → LoadsMade ts (IsRootLoad ls) all → Among (flat_map postorder (map load_root all)) u → IsOperationOf es u
  load_in [] es u h g m = absurd m
  load_in (l ∷ all) es u h g m =
      ⊎_elim (λ (a : Among (postorder (load_root l)) u). inl (inner_in (load_root l) u (record { typed = h.0; made = (g.0.0, g.0.1, g.0.2) }) a))
      (λ (b : Among (flat_map postorder (map load_root all)) u). load_in all es u h.1 g.1 b) (among_either (postorder (load_root l)) (flat_map postorder (map load_root all)) u m)

  of_two : (es : List Entry) (kind : Rattle.ix_graph.specs.declared.kind.Kind.Kind) (ty : Ty) (a b t u : Term) → IsInner ts ls types a → IsInner ts ls types b → IsWriteOf ts ls types types es 0 t → t ≡ t_two kind ty a b
      → Among (postorder (t_two kind ty a b)) u → IsOperationOf es u
  of_two es kind ty a b t u p q w e m =
      only_last (postorder a ++ postorder b) (t_two kind ty a b) u (IsOperationOf es u)
      (λ n. ⊎_elim (λ (l : Among (postorder a) u). inl (inner_in a u p l)) (λ (r : Among (postorder b) u). inl (inner_in b u q r)) (among_either (postorder a) (postorder b) u n))
      (λ d. inr (subst (IsWriteOf ts ls types types es 0) (e ∙ sym d) w)) m

  write_in : (es : List Entry) (n : ℕ) (e : Entry) (ty : Ty) (t u : Term) → IsEntry types ty e → EntryMade ts (IsRootLoad ls) e → IsWriteOf ts ls types types es 0 t → t ≡ write_root n e → Among (postorder (write_root n e)) u
      → IsOperationOf es u
  write_in es zero e ty t u h g w s m =
      only_last (postorder e.address ++ postorder e.value ++ postorder e.condition) (write_root zero e) u (IsOperationOf es u)
      (λ n. ⊎_elim
      (λ (v : Among (postorder e.address ++ postorder e.value) u). ⊎_elim (λ (l : Among (postorder e.address) u). inl (inner_in e.address u (record { typed = h.address.typed; made = g.2 }) l))
      (λ (r : Among (postorder e.value) u). inl (inner_in e.value u (record { typed = h.value.typed; made = g.1 }) r)) (among_either (postorder e.address) (postorder e.value) u v))
      (λ (r : Among (postorder e.condition) u). inl (inner_in e.condition u (record { typed = h.condition.typed; made = g.0 }) r)) (among_either (postorder e.address ++ postorder e.value) (postorder e.condition) u n))
      (λ d. inr (subst (IsWriteOf ts ls types types es 0) (s ∙ sym d) w)) m
  write_in es (suc zero) e ty t u h g w s m =
      of_two es k.WrRD u1 e.value e.condition t u (record { typed = h.value.typed; made = g.1 }) (record { typed = h.condition.typed; made = g.0 }) w s m
  write_in es (suc (suc zero)) e ty t u h g w s m =
      of_two es k.WrPC u1 e.value e.condition t u (record { typed = h.value.typed; made = g.1 }) (record { typed = h.condition.typed; made = g.0 }) w s m
  write_in es (suc (suc (suc r))) e ty t u h g w s m =
      of_two es (k.WrCustReg r) u1 e.value e.condition t u (record { typed = h.value.typed; made = g.1 }) (record { typed = h.condition.typed; made = g.0 }) w s m

  writes_under : (es : List Entry) (rs : List Term) (u : Term) → ((t : Term) → Among rs t → IsWriteOf ts ls types types es 0 t) → Among (flat_map postorder rs) u → IsOperationOf es u
  writes_under es [] u h m = absurd m
  writes_under es (r ∷ rs) u h m =
      ⊎_elim
      (λ (a : Among (postorder r) u). (let w = h r (inl refl) in write_in es (0 + w.place) w.entry w.ty r u w.typed w.made w w.is (subst (λ (z : Term). Among (postorder z) u) w.is a)))
      (λ (b : Among (flat_map postorder rs) u). writes_under es rs u (λ t n. h t (inr n)) b) (among_either (postorder r) (flat_map postorder rs) u m)

flat_either : (xs ys : List Term) (u : Term) → Among (flat_map postorder (xs ++ ys)) u → Among (flat_map postorder xs) u ⊎ Among (flat_map postorder ys) u
flat_either [] ys u m = inr m
flat_either (x ∷ xs) ys u m =
    ⊎_elim (λ (a : Among (postorder x) u). inl (among_left (postorder x) (flat_map postorder xs) u a))
    (λ (b : Among (flat_map postorder (xs ++ ys)) u). ⊎_elim (λ (c : Among (flat_map postorder xs) u). inl (Rattle.ix_mean.proofs.Ordering.among_right (postorder x) (flat_map postorder xs) u c))
    (λ (d : Among (flat_map postorder ys) u). inr d) (flat_either xs ys u b))
    (among_either (postorder x) (flat_map postorder (xs ++ ys)) u m)

-- ---- the operations of a behaviour
module _ (f : Frame) (x : Statement) (ts : List Table) (typed : IsTypedStatement f x) (accesses : AccessesAreTyped x) (tables : TablesAreRead ts x) where
  abbrev pub the_loads : List Load
  the_loads = loads one_term x (start f)

  abbrev pub the_entries : List Entry
  the_entries = (effect_terms f x).targets

  all_loads : AllLoads ts (IsRootLoad the_loads) the_loads
  all_loads = root_loads ts the_loads the_loads (λ t m. m) (loads_access one_term x (start f) accesses)

  made_entries : EntriesMade ts (IsRootLoad the_loads) the_entries
  made_entries = (run_made ts (IsRootLoad the_loads) one_term tt x tables (start f) (start_made ts (IsRootLoad the_loads) f) all_loads).targets

  made_loads : LoadsMade ts (IsRootLoad the_loads) the_loads
  made_loads = loads_made ts (IsRootLoad the_loads) one_term tt x tables (start f) (start_made ts (IsRootLoad the_loads) f) all_loads

  pub operation_is : (u : Term) → Among (operations (roots the_loads the_entries)) u → IsOperationOf ts the_loads f.targets the_entries u
  operation_is u m =
      ⊎_elim
      (λ (a : Among (flat_map postorder (map load_root the_loads)) u). load_in ts the_loads f.targets the_loads the_entries u (loads_typed f one_term (one_of f.targets) x typed (start f) (start_of f)) made_loads a)
      (λ (b : Among (flat_map postorder (write_roots 0 the_entries)) u).
      writes_under ts the_loads f.targets the_entries (write_roots 0 the_entries) u (λ t n. writes_in ts the_loads f.targets f.targets the_entries 0 t (effect_typed f x typed).targets made_entries n) b)
      (flat_either (map load_root the_loads) (write_roots 0 the_entries) u ((operations_law (roots the_loads the_entries)).only u m))
