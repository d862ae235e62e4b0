-- The term of an expression has its type, and stands for its number.
use Rattle.std.proofs.Common.{◌≡◌, ℕ, zero, suc, refl, sym, ap, subst, ◌∙◌, ⊎_elim, Bool, true, false, cond, Option, Some, ℤ, pos, List, [], ◌∷◌, ◌++◌, get_or, map}
use Rattle.std.specs.Prelude.{◌&&◌}
use Rattle.std.proofs.lemmas.Bool.{cond-true, cond-false, cond_both, and_parts}
use Rattle.ix_bits.specs.declared.number.Ty.{Ty}
use Rattle.ix_bits.specs.declared.operator.BinOp.{BinOp}
use Rattle.ix_bits.specs.declared.operator.BinOp.TheVariants as b
use Rattle.ix_bits.specs.ResultTypes.{Embeds}
use Rattle.ix_bits.specs.Operators.{value_of, fit, is_true, binary_number}
use Rattle.ix_graph.specs.declared.kind.Kind.{Kind}
use Rattle.ix_graph.specs.declared.kind.Kind.TheVariants as k
use Rattle.ix_types.specs.Results.{IsBinaryType, IsCommon}
use Rattle.ix_mean.specs.Core.{u1, u32, Expression, x_const, x_slot, x_read, x_load, x_one, x_cast, x_entry, x_two, x_choose, type_of_expression}
use Rattle.ix_mean.specs.Meaning.{Inputs, loaded, one_number, entry_number, number, Access, accesses}
use Rattle.ix_mean.specs.Terms.{Term, t_const, type_of, value, operator_number, binary_of, kind_of, same_ty, make_one, make_entry, make_two, make_mux, cast_to, condition, zero_term, term, Load, expression_loads, active}
use Rattle.ix_mean.specs.Typing.{Frame, IsOne, IsOperator, AreEntriesOf, IsIndexOf, is_constant, IsConstantIndex, IsTypedExpression, IsTerm, IsOf, AreOf, AreInputs}
use Rattle.ix_mean.proofs.Making.{make_one_of, make_one_value, constant_entry, make_entry_of, make_entry_value, make_two_of, make_two_value, cast_of, cast_value, cast_kept, mux_of, mux_value, condition_of, condition_true, zero_of}

-- ---- slots
pub at_of : (ts tys : List Ty) (xs : List Term) (n : ℕ) → AreOf ts tys xs → IsOf ts (get_or tys n u1) (get_or xs n zero_term)
at_of ts [] [] n h = zero_of ts
at_of ts [] (x ∷ xs) n h = absurd h
at_of ts (ty ∷ tys) [] n h = absurd h
at_of ts (ty ∷ tys) (x ∷ xs) zero h = h.0
at_of ts (ty ∷ tys) (x ∷ xs) (suc n) h = at_of ts tys xs n h.1

pub at_value : (i : Inputs) (xs : List Term) (n : ℕ) → value i (get_or xs n zero_term) ≡ get_or (map (value i) xs) n (pos 0)
at_value i [] n = refl
at_value i (x ∷ xs) zero = refl
at_value i (x ∷ xs) (suc n) = at_value i xs n

-- ---- operators
pub binary_kind : (op : BinOp) → binary_of (kind_of op) ≡ Some op
binary_kind b.Add = refl
binary_kind b.Sub = refl
binary_kind b.Mul = refl
binary_kind b.And = refl
binary_kind b.Or = refl
binary_kind b.Xor = refl
binary_kind b.Shl = refl
binary_kind b.Shr = refl
binary_kind b.Eq = refl
binary_kind b.Ne = refl
binary_kind b.Lt = refl
binary_kind b.Le = refl
binary_kind b.Gt = refl
binary_kind b.Ge = refl
binary_kind b.Land = refl
binary_kind b.Lor = refl
binary_kind b.Concat = refl

pub operator_at : (op : BinOp) (x y u v ty : Ty) → u ≡ x → v ≡ y → IsBinaryType op x y ty → IsOperator (binary_of (kind_of op)) u v ty
operator_at op x y u v ty e f t =
    subst (λ (o : Option BinOp). IsOperator o u v ty) (sym (binary_kind op))
    (subst (λ (z : Ty). IsBinaryType op z v ty) (sym e) (subst (λ (z : Ty). IsBinaryType op x z ty) (sym f) t))

pub one_at : (kind : Kind) (x u ty : Ty) → u ≡ x → IsOne kind x ty → IsOne kind u ty
one_at kind x u ty e t = subst (λ (z : Ty). IsOne kind z ty) (sym e) t

pub common_at : (x y u v ty : Ty) → u ≡ x → v ≡ y → IsCommon x y ty → IsCommon u v ty
common_at x y u v ty e f t = subst (λ (z : Ty). IsCommon z v ty) (sym e) (subst (λ (z : Ty). IsCommon x z ty) (sym f) t)

pub embeds_at : (x u ty : Ty) → u ≡ x → Embeds x ty → Embeds u ty
embeds_at x u ty e t = subst (λ (z : Ty). Embeds z ty) (sym e) t

-- ---- an expression of literals alone is a constant
pub data IsConstantTerm (t : Term) : Type 0 where
  constant_term : (ty : Ty) (raw : ℕ) → t ≡ t_const ty raw → IsConstantTerm t

one_constant : (kind : Kind) (ty : Ty) (t : Term) → IsConstantTerm t → IsConstantTerm (make_one kind ty t)
one_constant kind ty t (constant_term a raw e) = constant_term ty _ (ap (make_one kind ty) e)

cast_constant : (ty : Ty) (t : Term) → IsConstantTerm t → IsConstantTerm (cast_to ty t)
cast_constant ty t c = cond_both (same_ty (type_of t) ty) t (make_one k.Cast ty t) IsConstantTerm (λ e. c) (λ e. one_constant k.Cast ty t c)

two_constant : (kind : Kind) (ty : Ty) (s t : Term) → IsConstantTerm s → IsConstantTerm t → IsConstantTerm (make_two kind ty s t)
two_constant kind ty s t (constant_term a x e) (constant_term c y f) =
    constant_term ty _ (ap (λ (z : Term). make_two kind ty z t) e ∙ ap (make_two kind ty (t_const a x)) f)

condition_constant : (t : Term) → IsConstantTerm t → IsConstantTerm (condition t)
condition_constant t c =
    cond_both (same_ty (type_of t) u1) t (make_two k.Ne u1 t zero_term) IsConstantTerm (λ e. c) (λ e. two_constant k.Ne u1 t zero_term c (constant_term u1 0 refl))

mux_constant : (ty : Ty) (c x y : Term) → IsConstantTerm c → IsConstantTerm x → IsConstantTerm y → IsConstantTerm (make_mux ty c x y)
mux_constant ty c x y (constant_term a raw e) p q =
    subst IsConstantTerm (sym (ap (λ (z : Term). make_mux ty z x y) e))
    (cond_both (is_true (value_of a raw)) x y (λ z. IsConstantTerm (cast_to ty z)) (λ d. cast_constant ty x p) (λ d. cast_constant ty y q))

pub constant_is : (xs : List Term) (p : Term) (e : Expression) → is_constant e ≡ true → IsConstantTerm (term xs p e)
constant_is xs p (x_const ty raw) h = constant_term ty raw refl
constant_is xs p (x_slot n ty) h = cc
constant_is xs p (x_read kind ty) h = cc
constant_is xs p (x_load ty a) h = cc
constant_is xs p (x_one kind ty a) h = one_constant kind ty (term xs p a) (constant_is xs p a h)
constant_is xs p (x_cast ty a) h = cast_constant ty (term xs p a) (constant_is xs p a h)
constant_is xs p (x_entry n es ty a) h = cc
constant_is xs p (x_two op ty a b) h =
    let q = and_parts (is_constant a) (is_constant b) h in
    two_constant (kind_of op) ty (term xs p a) (term xs p b) (constant_is xs p a q.0) (constant_is xs p b q.1)
constant_is xs p (x_choose ty c a b) h =
    let q = and_parts (is_constant c && is_constant a) (is_constant b) h in
    let r = and_parts (is_constant c) (is_constant a) q.0 in
    mux_constant ty (condition (term xs p c)) (term xs p a) (term xs p b) (condition_constant (term xs p c) (constant_is xs p c r.0)) (constant_is xs p a r.1) (constant_is xs p b q.1)

-- ---- an entry of a table, by an index of its type or by a constant
entry_of : (ts : List Ty) (n : ℕ) (es : List ℕ) (ty u : Ty) (t : Term) → IsTerm ts t → type_of t ≡ u → AreEntriesOf ty es → IsIndexOf es u → IsOf ts ty (make_entry n es ty t)
entry_of ts n es ty u t h e es' o = make_entry_of ts n es ty t h es' (subst (IsIndexOf es) (sym e) o)

constant_entry_of : (ts : List Ty) (n : ℕ) (es : List ℕ) (ty : Ty) (t : Term) → IsConstantTerm t → AreEntriesOf ty es → IsOf ts ty (make_entry n es ty t)
constant_entry_of ts n es ty t (constant_term a raw e) es' =
    subst (λ (z : Term). IsOf ts ty (make_entry n es ty z)) (sym e) (constant_entry ts n es ty a raw es')

-- ---- the term has the type
pub term_of : (f : Frame) (xs : List Term) (p : Term) → AreOf f.targets f.slots xs → IsOf f.targets u1 p → (e : Expression) → IsTypedExpression f e → IsOf f.targets (type_of_expression e) (term xs p e)
term_of f xs p s q (x_const ty raw) h = record { typed = h; ty_is = refl }
term_of f xs p s q (x_slot n ty) h = subst (λ (z : Ty). IsOf f.targets z (get_or xs n zero_term)) h.1 (at_of f.targets f.slots xs n s)
term_of f xs p s q (x_read kind ty) h = record { typed = h; ty_is = refl }
term_of f xs p s q (x_load ty a) h =
    let r = term_of f xs p s q a h.0 in
    let c = cast_of f.targets u32 (term xs p a) r.typed in
    record { typed = (c.typed, q.typed, record { unsigned = h.1; address = c.ty_is; condition = q.ty_is }); ty_is = refl }
term_of f xs p s q (x_one kind ty a) h =
    let r = term_of f xs p s q a h.0 in
    make_one_of f.targets kind ty (term xs p a) r.typed (one_at kind (type_of_expression a) (type_of (term xs p a)) ty r.ty_is h.1)
term_of f xs p s q (x_cast ty a) h = cast_of f.targets ty (term xs p a) (term_of f xs p s q a h).typed
term_of f xs p s q (x_entry n es ty a) h =
    let r = term_of f xs p s q a h.0 in
    ⊎_elim (λ (o : IsIndexOf es (type_of_expression a)). entry_of f.targets n es ty (type_of_expression a) (term xs p a) r.typed r.ty_is h.1 o)
    (λ (c : IsConstantIndex es a). constant_entry_of f.targets n es ty (term xs p a) (constant_is xs p a c.constant) h.1)
    h.2
term_of f xs p s q (x_two op ty a b) h =
    let r = term_of f xs p s q a h.0 in
    let t = term_of f xs p s q b h.1 in
    make_two_of f.targets (kind_of op) ty (term xs p a) (term xs p b) r.typed t.typed
    (operator_at op (type_of_expression a) (type_of_expression b) (type_of (term xs p a)) (type_of (term xs p b)) ty r.ty_is t.ty_is h.2)
term_of f xs p s q (x_choose ty c a b) h =
    let d = condition_of f.targets (term xs p c) (term_of f xs p s q c h.0).typed in
    let r = term_of f xs p s q a h.1 in
    let t = term_of f xs p s q b h.2 in
    mux_of f.targets ty (condition (term xs p c)) (term xs p a) (term xs p b) d.typed d.ty_is r.typed t.typed
    (common_at (type_of_expression a) (type_of_expression b) (type_of (term xs p a)) (type_of (term xs p b)) ty r.ty_is t.ty_is h.3)

-- ---- the term stands for the number, where the path condition holds
pub term_value : (f : Frame) (i : Inputs) → AreInputs f.targets i → (xs : List Term) (p : Term) → AreOf f.targets f.slots xs → IsOf f.targets u1 p → is_true (value i p) ≡ true
    → (e : Expression) → IsTypedExpression f e → value i (term xs p e) ≡ number i (map (value i) xs) e
term_value f i g xs p s q l (x_const ty raw) h = refl
term_value f i g xs p s q l (x_slot n ty) h = at_value i xs n
term_value f i g xs p s q l (x_read kind ty) h = refl
term_value f i g xs p s q l (x_load ty a) h =
    let r = term_of f xs p s q a h.0 in
    let c = cast_kept f.targets i g u32 (term xs p a) r.typed (embeds_at (type_of_expression a) (type_of (term xs p a)) u32 r.ty_is h.2) in
    cond-true (is_true (value i p)) (loaded i.memory ty (value i (cast_to u32 (term xs p a)))) (pos 0) l
    ∙ ap (loaded i.memory ty) (c ∙ term_value f i g xs p s q l a h.0)
term_value f i g xs p s q l (x_one kind ty a) h =
    let t = term xs p a in
    let r = term_of f xs p s q a h.0 in
    make_one_value f.targets i kind ty t r.typed (one_at kind (type_of_expression a) (type_of t) ty r.ty_is h.1)
    ∙ ap (λ (z : Ty). one_number kind z ty (value i t)) r.ty_is ∙ ap (one_number kind (type_of_expression a) ty) (term_value f i g xs p s q l a h.0)
term_value f i g xs p s q l (x_cast ty a) h = cast_value f.targets i g ty (term xs p a) (term_of f xs p s q a h).typed ∙ ap (fit ty) (term_value f i g xs p s q l a h)
term_value f i g xs p s q l (x_entry n es ty a) h = make_entry_value i n es ty (term xs p a) ∙ ap (entry_number es ty) (term_value f i g xs p s q l a h.0)
term_value f i g xs p s q l (x_two op ty a b) h =
    let u = term xs p a in
    let v = term xs p b in
    let r = term_of f xs p s q a h.0 in
    let t = term_of f xs p s q b h.1 in
    make_two_value f.targets i (kind_of op) ty u v r.typed t.typed (operator_at op (type_of_expression a) (type_of_expression b) (type_of u) (type_of v) ty r.ty_is t.ty_is h.2)
    ∙ ap (λ (o : Option BinOp). operator_number o (type_of u) (value i u) (type_of v) (value i v)) (binary_kind op)
    ∙ ap (λ (z : Ty). binary_number op z (value i u) (type_of v) (value i v)) r.ty_is
    ∙ ap (λ (z : Ty). binary_number op (type_of_expression a) (value i u) z (value i v)) t.ty_is
    ∙ ap (λ (z : ℤ). binary_number op (type_of_expression a) z (type_of_expression b) (value i v)) (term_value f i g xs p s q l a h.0)
    ∙ ap (λ (z : ℤ). binary_number op (type_of_expression a) (number i (map (value i) xs) a) (type_of_expression b) z) (term_value f i g xs p s q l b h.1)
term_value f i g xs p s q l (x_choose ty c a b) h =
    let u = term xs p a in
    let v = term xs p b in
    let w = term_of f xs p s q c h.0 in
    let r = term_of f xs p s q a h.1 in
    let t = term_of f xs p s q b h.2 in
    mux_value f.targets i g ty (condition (term xs p c)) u v r.typed t.typed (common_at (type_of_expression a) (type_of_expression b) (type_of u) (type_of v) ty r.ty_is t.ty_is h.3)
    ∙ ap (λ (d : Bool). cond d (value i u) (value i v)) (condition_true f.targets i (term xs p c) w.typed ∙ ap is_true (term_value f i g xs p s q l c h.0))
    ∙ ap (λ (z : ℤ). cond (is_true (number i (map (value i) xs) c)) z (value i v)) (term_value f i g xs p s q l a h.1)
    ∙ ap (λ (z : ℤ). cond (is_true (number i (map (value i) xs) c)) (number i (map (value i) xs) a) z) (term_value f i g xs p s q l b h.2)

-- ---- loads
pub active-append : (i : Inputs) (xs ys : List Load) → active i (xs ++ ys) ≡ active i xs ++ active i ys
active-append i [] ys = refl
active-append i (x ∷ xs) ys = more (is_true (value i x.condition)) (record { ty = x.ty; at = value i x.address }) (active i (xs ++ ys)) (active i xs) (active i ys) (active-append i xs ys)
  where
    more : (d : Bool) (a : Access) (all front back : List Access) → all ≡ front ++ back → cond d (a ∷ all) all ≡ cond d (a ∷ front) front ++ back
    more true a all front back e = ap (λ (z : List Access). a ∷ z) e
    more false a all front back e = e

active-joins : (i : Inputs) (xs ys : List Load) (us vs : List Access) → active i xs ≡ us → active i ys ≡ vs → active i (xs ++ ys) ≡ us ++ vs
active-joins i xs ys us vs e f = active-append i xs ys ∙ ap (λ (z : List Access). z ++ active i ys) e ∙ ap (λ (z : List Access). us ++ z) f

-- where the path condition holds, an expression's loads are its accesses
pub loads_value : (f : Frame) (i : Inputs) → AreInputs f.targets i → (xs : List Term) (p : Term) → AreOf f.targets f.slots xs → IsOf f.targets u1 p → is_true (value i p) ≡ true
    → (e : Expression) → IsTypedExpression f e → active i (expression_loads xs p e) ≡ accesses i (map (value i) xs) e
loads_value f i g xs p s q l (x_const ty raw) h = refl
loads_value f i g xs p s q l (x_slot n ty) h = refl
loads_value f i g xs p s q l (x_read kind ty) h = refl
loads_value f i g xs p s q l (x_load ty a) h =
    let r = term_of f xs p s q a h.0 in
    let c = cast_kept f.targets i g u32 (term xs p a) r.typed (embeds_at (type_of_expression a) (type_of (term xs p a)) u32 r.ty_is h.2) in
    active-joins i (expression_loads xs p a) _ _ _
    (loads_value f i g xs p s q l a h.0)
    (cond-true (is_true (value i p)) (record { ty = ty; at = value i (cast_to u32 (term xs p a)) } ∷ []) [] l
    ∙ ap (λ (z : ℤ). let x : Access = record { ty = ty; at = z } in x ∷ []) (c ∙ term_value f i g xs p s q l a h.0))
loads_value f i g xs p s q l (x_one kind ty a) h = loads_value f i g xs p s q l a h.0
loads_value f i g xs p s q l (x_cast ty a) h = loads_value f i g xs p s q l a h
loads_value f i g xs p s q l (x_entry n es ty a) h = loads_value f i g xs p s q l a h.0
loads_value f i g xs p s q l (x_two op ty a b) h =
    active-joins i (expression_loads xs p a) (expression_loads xs p b) _ _ (loads_value f i g xs p s q l a h.0) (loads_value f i g xs p s q l b h.1)
loads_value f i g xs p s q l (x_choose ty c a b) h =
    active-joins i (expression_loads xs p c ++ expression_loads xs p a) (expression_loads xs p b) _ _
    (active-joins i (expression_loads xs p c) (expression_loads xs p a) _ _ (loads_value f i g xs p s q l c h.0) (loads_value f i g xs p s q l a h.1))
    (loads_value f i g xs p s q l b h.2)

-- and none where it does not hold
pub loads_none : (i : Inputs) (xs : List Term) (p : Term) → is_true (value i p) ≡ false → (e : Expression) → active i (expression_loads xs p e) ≡ []
loads_none i xs p l (x_const ty raw) = refl
loads_none i xs p l (x_slot n ty) = refl
loads_none i xs p l (x_read kind ty) = refl
loads_none i xs p l (x_load ty a) =
    active-joins i (expression_loads xs p a) _ [] [] (loads_none i xs p l a) (cond-false (is_true (value i p)) (record { ty = ty; at = value i (cast_to u32 (term xs p a)) } ∷ []) [] l)
loads_none i xs p l (x_one kind ty a) = loads_none i xs p l a
loads_none i xs p l (x_cast ty a) = loads_none i xs p l a
loads_none i xs p l (x_entry n es ty a) = loads_none i xs p l a
loads_none i xs p l (x_two op ty a b) = active-joins i (expression_loads xs p a) (expression_loads xs p b) [] [] (loads_none i xs p l a) (loads_none i xs p l b)
loads_none i xs p l (x_choose ty c a b) =
    active-joins i (expression_loads xs p c ++ expression_loads xs p a) (expression_loads xs p b) [] []
    (active-joins i (expression_loads xs p c) (expression_loads xs p a) [] [] (loads_none i xs p l c) (loads_none i xs p l a))
    (loads_none i xs p l b)
