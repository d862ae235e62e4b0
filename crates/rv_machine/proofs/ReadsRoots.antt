-- What the operations of a behaviour read: kinds that it reads, and its loads.
use Rattle.std.proofs.Common.{◌≡◌, refl, sym, ap, subst, ◌∙◌, ◌⊎◌, inl, inr, ⊎_elim, ℕ, zero, suc, Bool, true, false, cond, List, [], ◌∷◌, ◌++◌, map, Some}
use Rattle.std.specs.Prelude.{slice_get}
use Rattle.std.specs.List.{flat_map}
use Rattle.ix_bits.specs.declared.number.Ty.{Ty}
use Rattle.ix_graph.specs.declared.kind.Kind.{Kind}
use Rattle.ix_graph.specs.declared.kind.Kind.TheVariants as k
use Rattle.ix_graph.specs.declared.graph.Op.{Op}
use Rattle.ix_graph.specs.declared.graph.Graph.{Graph}
use Rattle.ix_graph.specs.declared.role.Role.TheVariants.{Read, Write}
use Rattle.ix_graph.specs.Roles.{role_of}
use Rattle.ix_extension.specs.Extensions.{ExtensionTree}
use Rattle.ix_behaviour.specs.declared.which.Which.{Which}
use Rattle.ix_behaviour.specs.Behaviours.{statement_at, frame_at}
use Rattle.ix_mean.specs.Core.{u1, Statement}
use Rattle.ix_mean.specs.Terms.{Term, t_const, t_read, t_one, t_entry, t_two, t_three, same_term, zero_term, one_term, Entry, Load, loads}
use Rattle.ix_mean.specs.Order.{postorder, Among, AreApart, operations, load_root, write_root, write_roots, roots}
use Rattle.ix_mean.specs.Typing.{Frame}
use Rattle.ix_mean.specs.Effects.{start, effect_terms}
use Rattle.ix_mean.proofs.Ordering.{among_either, operations_law}
use Rattle.ix_flow.specs.Flows.{kind_of_term, IsOpOf, AreOpsOf}
use Rattle.ix_graph_laws.specs.Operations.{operations_at, IsGraphOf}
use Rattle.rv_machine.proofs.ReadsTerms.{AllKept, Made, AllLoads, EntryMade, EntriesMade, LoadsMade, run_made, loads_made, start_made}

-- ---- operations and their terms at places

record IsOpAt (all ts : List Term) (j : ℕ) (o : Op) : Type 0 where
  term : Term
  there : slice_get ts j ≡ Some term
  is : IsOpOf all term o

op_at : (all ts : List Term) (os : List Op) (j : ℕ) (o : Op) → AreOpsOf all ts os → slice_get os j ≡ Some o → IsOpAt all ts j o
op_at all [] [] j o h e = cc
op_at all [] (p ∷ os) j o h e = absurd h
op_at all (t ∷ ts) [] j o h e = cc
op_at all (t ∷ ts) (p ∷ os) zero o h e = (let same : p ≡ o = cc in record { term = t; there = refl; is = subst (IsOpOf all t) same h.0 })
op_at all (t ∷ ts) (p ∷ os) (suc j) o h e = let r = op_at all ts os j o h.1 e in record { term = r.term; there = r.there; is = r.is }

place_among : (ts : List Term) (j : ℕ) (t : Term) → slice_get ts j ≡ Some t → Among ts t
place_among [] j t e = cc
place_among (x ∷ ts) zero t e = (let same : t ≡ x = cc in inl same)
place_among (x ∷ ts) (suc j) t e = inr (place_among ts j t e)

pub one_place : (ts : List Term) (j m : ℕ) (t : Term) → AreApart ts → slice_get ts j ≡ Some t → slice_get ts m ≡ Some t → j ≡ m
one_place [] j m t h e f = cc
one_place (x ∷ ts) zero zero t h e f = refl
one_place (x ∷ ts) zero (suc m) t h e f = (let same : t ≡ x = cc in absurd (h.0 (subst (Among ts) same (place_among ts m t f))))
one_place (x ∷ ts) (suc j) zero t h e f = (let same : t ≡ x = cc in absurd (h.0 (subst (Among ts) same (place_among ts j t e))))
one_place (x ∷ ts) (suc j) (suc m) t h e f = ap suc (one_place ts j m t h.1 e f)

-- ---- subterms

only_last : (us : List Term) (t u : Term) (P : Type 0) → (Among us u → P) → (u ≡ t → P) → Among (us ++ t ∷ []) u → P
only_last us t u P f g m = ⊎_elim f (λ (b : Among (t ∷ []) u). ⊎_elim g (λ (no : ⊥). absurd no) b) (among_either us (t ∷ []) u m)

module _ (R : Kind → Type 0) (M : Type 0) (L : Ty → Term → Term → Type 0) where
  itself : (t u : Term) → Made R M L t → u ≡ t → Made R M L u
  itself t u h e = subst (Made R M L) (sym e) h

  made_in : (t u : Term) → Made R M L t → Among (postorder t) u → Made R M L u
  made_in (t_const ty raw) u h m = absurd m
  made_in (t_read kind ty) u h m = ⊎_elim (λ (e : u ≡ t_read kind ty). itself (t_read kind ty) u h e) (λ (no : ⊥). absurd no) m
  made_in (t_one kind ty a) u h m = only_last (postorder a) (t_one kind ty a) u _ (λ n. made_in a u h.1 n) (λ e. itself (t_one kind ty a) u h e) m
  made_in (t_entry n es ty a) u h m = only_last (postorder a) (t_entry n es ty a) u _ (λ l. made_in a u h l) (λ e. itself (t_entry n es ty a) u h e) m
  made_in (t_two kind ty a b) u h m =
      only_last (postorder a ++ postorder b) (t_two kind ty a b) u _
      (λ n. ⊎_elim (λ (l : Among (postorder a) u). made_in a u h.1 l) (λ (r : Among (postorder b) u). made_in b u h.2 r) (among_either (postorder a) (postorder b) u n))
      (λ e. itself (t_two kind ty a b) u h e) m
  made_in (t_three kind ty a b c) u h m =
      only_last (postorder a ++ postorder b ++ postorder c) (t_three kind ty a b c) u _
      (λ n. ⊎_elim
      (λ (w : Among (postorder a ++ postorder b) u). ⊎_elim (λ (l : Among (postorder a) u). made_in a u h.1 l) (λ (r : Among (postorder b) u). made_in b u h.2 r) (among_either (postorder a) (postorder b) u w))
      (λ (r : Among (postorder c) u). made_in c u h.3 r) (among_either (postorder a ++ postorder b) (postorder c) u n))
      (λ e. itself (t_three kind ty a b c) u h e) m

  -- an operation: a subterm, or a write
  abbrev IsOne : Term → Type 0
  IsOne u = Made R M L u ⊎ (role_of (kind_of_term u) ≡ Write)

  write_role : (n : ℕ) (e : Entry) → role_of (kind_of_term (write_root n e)) ≡ Write
  write_role zero e = refl
  write_role (suc zero) e = refl
  write_role (suc (suc zero)) e = refl
  write_role (suc (suc (suc r))) e = refl

  load_in : (all : List Load) (u : Term) → LoadsMade R M L all → Among (flat_map postorder (map load_root all)) u → IsOne u
  load_in [] u g m = absurd m
  load_in (l ∷ all) u g m =
      ⊎_elim (λ (a : Among (postorder (load_root l)) u). inl (made_in (load_root l) u (g.0.0, g.0.1, g.0.2) a))
      (λ (b : Among (flat_map postorder (map load_root all)) u). load_in all u g.1 b) (among_either (postorder (load_root l)) (flat_map postorder (map load_root all)) u m)

  is_write : (n : ℕ) (e : Entry) (u : Term) → u ≡ write_root n e → IsOne u
  is_write n e u same = inr (ap (λ (z : Term). role_of (kind_of_term z)) same ∙ write_role n e)

  of_two : (kind : Kind) (ty : Ty) (a b u : Term) → Made R M L a → Made R M L b → (u ≡ t_two kind ty a b → IsOne u) → Among (postorder (t_two kind ty a b)) u → IsOne u
  of_two kind ty a b u p q w m =
      only_last (postorder a ++ postorder b) (t_two kind ty a b) u (IsOne u)
      (λ n. ⊎_elim (λ (l : Among (postorder a) u). inl (made_in a u p l)) (λ (r : Among (postorder b) u). inl (made_in b u q r)) (among_either (postorder a) (postorder b) u n))
      w m

  write_in : (n : ℕ) (e : Entry) (u : Term) → EntryMade R M L e → Among (postorder (write_root n e)) u → IsOne u
  write_in zero e u g m =
      only_last (postorder e.address ++ postorder e.value ++ postorder e.condition) (write_root zero e) u (IsOne u)
      (λ n. ⊎_elim
      (λ (v : Among (postorder e.address ++ postorder e.value) u). ⊎_elim (λ (l : Among (postorder e.address) u). inl (made_in e.address u g.2 l))
      (λ (r : Among (postorder e.value) u). inl (made_in e.value u g.1 r)) (among_either (postorder e.address) (postorder e.value) u v))
      (λ (r : Among (postorder e.condition) u). inl (made_in e.condition u g.0 r)) (among_either (postorder e.address ++ postorder e.value) (postorder e.condition) u n))
      (λ d. is_write zero e u d) m
  write_in (suc zero) e u g m = of_two k.WrRD u1 e.value e.condition u g.1 g.0 (λ d. is_write 1 e u d) m
  write_in (suc (suc zero)) e u g m = of_two k.WrPC u1 e.value e.condition u g.1 g.0 (λ d. is_write 2 e u d) m
  write_in (suc (suc (suc r))) e u g m = of_two (k.WrCustReg r) u1 e.value e.condition u g.1 g.0 (λ d. is_write (suc (suc (suc r))) e u d) m

  writes_in : (es : List Entry) (n : ℕ) (u : Term) → EntriesMade R M L es → Among (flat_map postorder (write_roots n es)) u → IsOne u
  writes_in [] n u g m = absurd m
  writes_in (e ∷ es) n u g m = by (same_term e.condition zero_term) m (λ l. writes_in es (suc n) u g.1 l) where
    by : (b : Bool) → Among (flat_map postorder (cond b (write_roots (suc n) es) (write_root n e ∷ write_roots (suc n) es))) u → (Among (flat_map postorder (write_roots (suc n) es)) u → IsOne u) → IsOne u
    by true l r = r l
    by false l r = ⊎_elim (λ (a : Among (postorder (write_root n e)) u). write_in n e u g.0 a) r (among_either (postorder (write_root n e)) (flat_map postorder (write_roots (suc n) es)) u l)

  flat_either : (xs ys : List Term) (u : Term) → Among (flat_map postorder (xs ++ ys)) u → Among (flat_map postorder xs) u ⊎ Among (flat_map postorder ys) u
  flat_either [] ys u m = inr m
  flat_either (x ∷ xs) ys u m =
      ⊎_elim (λ (a : Among (postorder x) u). inl (Rattle.ix_mean.proofs.Ordering.among_left (postorder x) (flat_map postorder xs) u a))
      (λ (b : Among (flat_map postorder (xs ++ ys)) u). ⊎_elim (λ (c : Among (flat_map postorder xs) u). inl (Rattle.ix_mean.proofs.Ordering.among_right (postorder x) (flat_map postorder xs) u c))
      (λ (d : Among (flat_map postorder ys) u). inr d) (flat_either xs ys u b))
      (among_either (postorder x) (flat_map postorder (xs ++ ys)) u m)

  -- each operation of a statement that reads such kinds and has such loads
  one_of : (f : Frame) (x : Statement) → AllKept R M x → AllLoads R M L (loads one_term x (start f)) → (u : Term) → Among (operations (roots (loads one_term x (start f)) (effect_terms f x).targets)) u → IsOne u
  one_of f x kept all u m =
      ⊎_elim
      (λ (a : Among (flat_map postorder (map load_root (loads one_term x (start f)))) u). load_in (loads one_term x (start f)) u (loads_made R M L one_term tt x kept (start f) (start_made R M L f) all) a)
      (λ (b : Among (flat_map postorder (write_roots 0 (effect_terms f x).targets)) u). writes_in (effect_terms f x).targets 0 u (run_made R M L one_term tt x kept (start f) (start_made R M L f) all).targets b)
      (flat_either (map load_root (loads one_term x (start f))) (write_roots 0 (effect_terms f x).targets) u ((operations_law (roots (loads one_term x (start f)) (effect_terms f x).targets)).only u m))

  -- what reads is of such a kind, or is such a load
  pub record IsLoadOf (u : Term) : Type 0 where
    pub ty : Ty
    pub address : Term
    pub condition : Term
    pub is : u ≡ t_two k.RdMem ty address condition
    pub has : L ty address condition

  made_reads : (all : List Term) (op : Op) (u : Term) → IsOpOf all u op → Made R M L u → role_of (kind_of_term u) ≡ Read → R (kind_of_term u) ⊎ IsLoadOf u
  made_reads all op (t_const ty raw) o h e = absurd o.operation
  made_reads all op (t_read kind ty) o h e = inl h
  made_reads all op (t_one kind ty a) o h e = cc (h.0, e)
  made_reads all op (t_entry n es ty a) o h e = cc
  made_reads all op (t_two kind ty a b) o h e = by kind e h.0 where
    by : (kind : Kind) → role_of kind ≡ Read → Rattle.rv_machine.proofs.ReadsTerms.LoadAt R M L kind ty a b → R kind ⊎ IsLoadOf (t_two kind ty a b)
    by k.RdMem q l = inr (record { ty = ty; address = a; condition = b; is = refl; has = l })
    by _ q l = cc
  made_reads all op (t_three kind ty a b c) o h e = (let same = ap role_of h.0 in cc (same, e))

  pub reads_of : (x : ExtensionTree) (w : Which) (g : Graph) → AllKept R M (statement_at x w) → AllLoads R M L (loads one_term (statement_at x w) (start (frame_at x w))) → IsGraphOf x w g
      → (j : ℕ) (o : Op) → slice_get g.ops j ≡ Some o → role_of o.kind ≡ Read → (u : Term) × (slice_get (operations_at x w) j ≡ Some u) × (o.kind ≡ kind_of_term u) × (R (kind_of_term u) ⊎ IsLoadOf u)
  reads_of x w g kept all h j o e r =
      let at = op_at (operations_at x w) (operations_at x w) g.ops j o h.ops e in
      let role : role_of (kind_of_term at.term) ≡ Read = ap role_of (sym at.is.kind_is) ∙ r in (
        at.term,
        at.there,
        at.is.kind_is,
        ⊎_elim (λ (m : Made R M L at.term). made_reads (operations_at x w) o at.term at.is m role) (λ (q : role_of (kind_of_term at.term) ≡ Write). absurd (never q role))
            (one_of (frame_at x w) (statement_at x w) kept all at.term (place_among (operations_at x w) j at.term at.there)),
      ) where
        never : {a : Rattle.ix_graph.specs.declared.role.Role.Role} → a ≡ Write → a ≡ Read → ⊥
        never p q = cc
