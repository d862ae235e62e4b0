-- A behaviour's graph has at most one load, and that of an always-block reads no operand and no memory.
use Rattle.std.proofs.Common.{◌≡◌, refl, sym, ap, subst, ◌∙◌, inl, inr, ⊎_elim, ℕ, ◌+◌, ◌≤◌, arith, Bool, true, false, cond, List, [], ◌∷◌, ◌++◌, length, map, Some, length-append}
use Rattle.std.specs.Prelude.{slice_get}
use Rattle.ix_bits.specs.declared.number.Ty.{Ty}
use Rattle.ix_bits.specs.Operators.{value_of, is_true}
use Rattle.ix_graph.specs.declared.kind.Kind.{Kind}
use Rattle.ix_graph.specs.declared.kind.Kind.TheVariants as k
use Rattle.ix_graph.specs.declared.graph.Op.{Op}
use Rattle.ix_graph.specs.declared.graph.Graph.{Graph}
use Rattle.ix_graph.specs.declared.role.Role.TheVariants.{Read, Compute}
use Rattle.ix_graph.specs.Roles.{role_of}
use Rattle.ix_tree.specs.TypedTrees.{TypedTextTree}
use Rattle.ix_typed.specs.Laws.{TextLaw}
use Rattle.ix_extension.specs.Extensions.{ExtensionTree}
use Rattle.ix_extension.specs.WellFormed.{IsOf}
use Rattle.ix_behaviour.specs.declared.which.Which.{Which}
use Rattle.ix_behaviour.specs.declared.which.Which.TheVariants as W
use Rattle.ix_behaviour.specs.Behaviours.{HasBehaviour, loads_in, accesses_in, statement_at, frame_at}
use Rattle.ix_behaviour.specs.Laws.{TypedBehaviourLaw, OneAccessLaw}
use Rattle.ix_graph_laws.specs.Laws.{ValidLaw, GraphEffectLaw, ValuesLaw}
use Rattle.ix_graph_laws.specs.Operations.{operations_at, IsGraphOf}
use Rattle.ix_mean.specs.Core.{u32, Expression, x_const, x_slot, x_read, x_load, x_one, x_cast, x_entry, x_two, x_choose, Statement, st_skip, st_then, st_set, st_write, st_if}
use Rattle.ix_mean.specs.Terms.{Term, t_const, t_read, t_one, t_entry, t_two, t_three, one_term, cast_to, term, Terms, when, unless, test_term, run_terms, Load, expression_loads, branch_loads, loads}
use Rattle.ix_mean.specs.Order.{Among, load_root, roots}
use Rattle.ix_mean.specs.Typing.{Frame, IsRead, IsOne, IsTypedExpression, IsTypedStatement}
use Rattle.ix_mean.specs.Effects.{start, effect_terms}
use Rattle.ix_mean.proofs.Ordering.{operations_law}
use Rattle.rv_machine.proofs.ReadsAsked.{ReadsCustoms}
use Rattle.rv_machine.proofs.ReadsBlocks.{block_kept}
use Rattle.rv_machine.proofs.ReadsInputs.{GraphLaws}
use Rattle.rv_machine.proofs.ReadsLoad.{OneLoad}
use Rattle.rv_machine.proofs.ReadsRoots.{IsLoadOf, one_place, reads_of}
use Rattle.rv_machine.proofs.ReadsTerms.{Kept, AllKept, AllLoads, none_loaded}

-- ---- what a typed behaviour reads is no memory but by loads

abbrev IsPlain : Kind → Type 0
IsPlain kind = kind ≡ k.RdMem → ⊥

plain_read : (ts : List Ty) (kind : Kind) (ty : Ty) → IsRead ts kind ty → IsPlain kind
plain_read ts kind ty h e = (let no = subst (λ (z : Kind). IsRead ts z ty) e h in absurd no)

one_computes : (kind : Kind) (a ty : Ty) → IsOne kind a ty → role_of kind ≡ Compute
one_computes k.Neg a ty h = refl
one_computes k.Not a ty h = refl
one_computes k.Lnot a ty h = refl
one_computes k.Cast a ty h = refl
one_computes (k.Range hi lo) a ty h = refl
one_computes _ a ty h = absurd h

expression_kept : (f : Frame) (e : Expression) → IsTypedExpression f e → Kept IsPlain (Unit {0}) e
expression_kept f (x_const ty raw) h = tt
expression_kept f (x_slot n ty) h = tt
expression_kept f (x_read kind ty) h = plain_read f.targets kind ty h
expression_kept f (x_load ty a) h = (tt, expression_kept f a h.0)
expression_kept f (x_one kind ty a) h = (one_computes kind _ ty h.1, expression_kept f a h.0)
expression_kept f (x_cast ty a) h = expression_kept f a h
expression_kept f (x_entry n es ty a) h = expression_kept f a h.0
expression_kept f (x_two op ty a c) h = (expression_kept f a h.0, expression_kept f c h.1)
expression_kept f (x_choose ty a c e) h = (expression_kept f a h.0, expression_kept f c h.1, expression_kept f e h.2)

statement_kept : (f : Frame) (x : Statement) → IsTypedStatement f x → AllKept IsPlain (Unit {0}) x
statement_kept f st_skip h = tt
statement_kept f (st_then x y) h = (statement_kept f x h.0, statement_kept f y h.1)
statement_kept f (st_set n ty e) h = expression_kept f e h.0
statement_kept f (st_write n ty e a) h = (expression_kept f e h.0, expression_kept f a h.1)
statement_kept f (st_if c x y) h = (expression_kept f c h.0, statement_kept f x h.1, statement_kept f y h.2)

-- ---- at most one load

branch_few : (c : Term) (xs ys : List Load) → length (branch_loads c xs ys) ≤ length xs + length ys
branch_few (t_const a raw) xs ys = by (is_true (value_of a raw))
  where
    by : (b : Bool) → length (cond b xs ys) ≤ length xs + length ys
    by true = omega arith
    by false = omega arith
branch_few (t_read _ _) xs ys = let e = length-append xs ys in omega (arith, e)
branch_few (t_one _ _ _) xs ys = let e = length-append xs ys in omega (arith, e)
branch_few (t_entry _ _ _ _) xs ys = let e = length-append xs ys in omega (arith, e)
branch_few (t_two _ _ _ _) xs ys = let e = length-append xs ys in omega (arith, e)
branch_few (t_three _ _ _ _ _) xs ys = let e = length-append xs ys in omega (arith, e)

expression_few : (xs : List Term) (p : Term) (e : Expression) → length (expression_loads xs p e) ≤ loads_in e
expression_few xs p (x_const ty raw) = omega arith
expression_few xs p (x_slot n ty) = omega arith
expression_few xs p (x_read kind ty) = omega arith
expression_few xs p (x_load ty a) =
    let e = length-append (expression_loads xs p a) (record { ty = ty; address = cast_to u32 (term xs p a); condition = p } ∷ []) in
    let h = expression_few xs p a in
    omega (arith, e, h)
expression_few xs p (x_one kind ty a) = expression_few xs p a
expression_few xs p (x_cast ty a) = expression_few xs p a
expression_few xs p (x_entry n es ty a) = expression_few xs p a
expression_few xs p (x_two op ty a b) = let e = length-append (expression_loads xs p a) (expression_loads xs p b) in omega (arith, e, expression_few xs p a, expression_few xs p b)
expression_few xs p (x_choose ty c a b) =
    let e = length-append (expression_loads xs p c) (expression_loads xs p a) in
    let h = length-append (expression_loads xs p c ++ expression_loads xs p a) (expression_loads xs p b) in
    omega (arith, e, h, expression_few xs p c, expression_few xs p a, expression_few xs p b)

loads_few : (p : Term) (x : Statement) (s : Terms) → length (loads p x s) ≤ accesses_in x
loads_few p st_skip s = omega arith
loads_few p (st_then x y) s = let e = length-append (loads p x s) (loads p y (run_terms p x s)) in omega (arith, e, loads_few p x s, loads_few p y (run_terms p x s))
loads_few p (st_set n ty e) s = expression_few s.slots p e
loads_few p (st_write n ty e a) s =
    let h = length-append (expression_loads s.slots p a) (expression_loads s.slots p e) in omega (arith, h, expression_few s.slots p a, expression_few s.slots p e)
loads_few p (st_if c x y) s =
    let t = test_term s.slots p c in
    let both = branch_loads t (loads (when p t) x s) (loads (unless p t) y s) in
    let e = length-append (expression_loads s.slots p c) both in
    let f = branch_few t (loads (when p t) x s) (loads (unless p t) y s) in
    omega (arith, e, f, expression_few s.slots p c, loads_few (when p t) x s, loads_few (unless p t) y s)

-- a load among these
abbrev IsRoot : List Load → Ty → Term → Term → Type 0
IsRoot ls ty a c = Among (map load_root ls) (t_two k.RdMem ty a c)

root_loads : (all ls : List Load) → ((t : Term) → Among (map load_root ls) t → Among (map load_root all) t) → AllLoads IsPlain (Unit {0}) (IsRoot all) ls
root_loads all [] h = tt
root_loads all (l ∷ ls) h = (h (load_root l) (inl refl), root_loads all ls (λ t m. h t (inr m)))

one_root : (ls : List Load) (t u : Term) → length ls ≤ 1 → Among (map load_root ls) t → Among (map load_root ls) u → t ≡ u
one_root [] t u l m n = absurd m
one_root (x ∷ y ∷ ls) t u l m n = absurd (omega (arith, l))
one_root (x ∷ []) t u l m n =
    ⊎_elim (λ (e : t ≡ load_root x). ⊎_elim (λ (f : u ≡ load_root x). e ∙ sym f) (λ (no : ⊥). absurd no) n) (λ (no : ⊥). absurd no) m

module _ (typed : TypedBehaviourLaw) (access : OneAccessLaw) (t : TypedTextTree) (x : ExtensionTree) (w : Which) (g : Graph) (of : IsOf t x) (has : HasBehaviour x w) (graph : IsGraphOf x w g) where
  abbrev ls : List Load
  ls = loads one_term (statement_at x w) (start (frame_at x w))

  -- an operation that loads is a load
  load_there : (j : ℕ) (o : Op) → slice_get g.ops j ≡ Some o → o.kind ≡ k.RdMem → (u : Term) × (slice_get (operations_at x w) j ≡ Some u) × Among (map load_root (loads one_term (statement_at x w) (start (frame_at x w)))) u
  load_there j o e is =
      let r =
      reads_of IsPlain (Unit {0}) (IsRoot (loads one_term (statement_at x w) (start (frame_at x w)))) x w g (statement_kept (frame_at x w) (statement_at x w) (typed t x w of has))
      (root_loads (loads one_term (statement_at x w) (start (frame_at x w))) (loads one_term (statement_at x w) (start (frame_at x w))) (λ z m. m)) graph j o e (ap role_of is) in (
        r.0,
        r.1,
        ⊎_elim (λ (no : IsPlain (Rattle.ix_flow.specs.Flows.kind_of_term r.0)). absurd (no (sym r.2 ∙ is)))
            (λ (y : IsLoadOf IsPlain (Unit {0}) (IsRoot (loads one_term (statement_at x w) (start (frame_at x w)))) r.0). subst (Among (map load_root (loads one_term (statement_at x w) (start (frame_at x w))))) (sym y.is) y.has) r.3,
      )

  pub one_load : OneLoad g
  one_load j m o q e f a b =
      let s = load_there j o e a in
      let u = load_there m q f b in
      let few = loads_few one_term (statement_at x w) (start (frame_at x w)) in
      let most = (access t x w of has).stands in
      let same : s.0 ≡ u.0 = one_root (loads one_term (statement_at x w) (start (frame_at x w))) s.0 u.0 (omega (arith, few, most)) s.2 u.2 in
      one_place (operations_at x w) j m u.0 (operations_law (roots (loads one_term (statement_at x w) (start (frame_at x w))) (effect_terms (frame_at x w) (statement_at x w)).targets)).once
      (s.1 ∙ ap (λ z. Some z) same) u.1

-- ---- always-blocks

no_read : (kind : Kind) → (role_of kind ≡ Read → ReadsCustoms kind) → ReadsCustoms kind
no_read k.RdRS1 h = h refl
no_read k.RdRS2 h = h refl
no_read k.RdMem h = h refl
no_read kind h = tt

pub block_reads : TextLaw → (t : TypedTextTree) (x : ExtensionTree) (n : ℕ) (g : Graph) → IsOf t x → HasBehaviour x (W.Block n) → IsGraphOf x (W.Block n) g → (j : ℕ) (op : Op) → slice_get g.ops j ≡ Some op → ReadsCustoms op.kind
block_reads law t x n g of has graph j op e =
    no_read op.kind
    (λ r.
    let kept = block_kept law t x n of has in
    let nothing : Ty → Term → Term → Type 0 = λ ty a c. ⊥ in
    let y = reads_of ReadsCustoms ⊥ (λ ty a c. ⊥) x (W.Block n) g kept (none_loaded ReadsCustoms (λ ty a c. ⊥) one_term (statement_at x (W.Block n)) (start (frame_at x (W.Block n))) kept) graph j op e r in
    ⊎_elim (λ (z : ReadsCustoms (Rattle.ix_flow.specs.Flows.kind_of_term y.0)). subst ReadsCustoms (sym y.2) z) (λ (z : IsLoadOf ReadsCustoms ⊥ (λ ty a c. ⊥) y.0). absurd z.has) y.3)

-- ---- all of it
pub graph_laws : ValidLaw → GraphEffectLaw → ValuesLaw → TypedBehaviourLaw → OneAccessLaw → TextLaw → GraphLaws
graph_laws valid effect values typed access texts =
    record {
      valid = valid;
      effect = effect;
      values = values;
      alone = λ t x w g of has graph. one_load typed access t x w g of has graph;
      blocks = block_reads texts;
    }
