-- What is made of terms has its type, and its number is that of the operation.
use Rattle.std.proofs.Common.{◌≡◌, ℕ, ◌+◌, ◌^◌, ◌≤◌, max, refl, sym, ap, subst, ◌∙◌, arith, Bool, true, false, cond, ℤ, List, lit≤, lit<}
use Rattle.std.specs.Prelude.{not, ◌&&◌, ◌||◌, unsigned_abs}
use Rattle.std.proofs.lemmas.Nat.{pow_pos}
use Rattle.std.proofs.lemmas.Bool.{cond_both}
use Rattle.ix_bits.specs.declared.number.Ty.{Ty}
use Rattle.ix_bits.specs.declared.operator.BinOp.TheVariants as b
use Rattle.ix_bits.specs.declared.operator.UnOp.TheVariants as unary
use Rattle.ix_bits.specs.Types.{HoldsNumber}
use Rattle.ix_bits.specs.ResultTypes.{Embeds}
use Rattle.ix_bits.specs.Operators.{pattern_of, value_of, fit, is_true, truth}
use Rattle.ix_bits.proofs.Remainders.{rem_below_lem}
use Rattle.ix_graph.specs.declared.kind.Kind.{Kind}
use Rattle.ix_graph.specs.declared.kind.Kind.TheVariants as k
use Rattle.ix_bits.proofs.Same.{ty_is}
use Rattle.ix_types.specs.Results.{IsBinaryType, IsUnaryType, IsCommon}
use Rattle.ix_mean.specs.Core.{u1}
use Rattle.ix_mean.specs.Meaning.{Inputs, one_number, entry_number}
use Rattle.ix_mean.specs.Terms.{Term, t_const, t_read, t_one, t_entry, t_two, t_three, type_of, value, two_number, operator_number, binary_of, same_ty, same_term, make_one, make_entry, make_two, cast_to, make_mux, condition, zero_term, one_term}
use Rattle.ix_mean.specs.Typing.{IsOne, IsTwo, IsOperator, AreEntriesOf, IsIndexOf, IsTerm, IsOf, AreInputs}
use Rattle.ix_mean.proofs.Same.{same_ty_is, same_term_is}
use Rattle.ix_mean.proofs.InRange.{pattern_holds, fit_is, entry_below, one_holds, operator_holds, value_holds}

const_of : (ts : List Ty) (ty : Ty) (n : ℤ) → IsOf ts ty (t_const ty (pattern_of ty.width n))
const_of ts ty n = record { typed = rem_below_lem (2 ^ ty.width) n (pow_pos ty.width); ty_is = refl }

pub constant_entry : (ts : List Ty) (n : ℕ) (es : List ℕ) (ty a : Ty) (raw : ℕ) → AreEntriesOf ty es → IsOf ts ty (make_entry n es ty (t_const a raw))
constant_entry ts n es ty a raw e = record { typed = entry_below es ty (unsigned_abs (value_of a raw)) e; ty_is = refl }

-- ---- one argument
pub make_one_of : (ts : List Ty) (kind : Kind) (ty : Ty) (t : Term) → IsTerm ts t → IsOne kind (type_of t) ty → IsOf ts ty (make_one kind ty t)
make_one_of ts kind ty (t_const a raw) h o = const_of ts ty _
make_one_of ts kind ty (t_read _ _) h o = record { typed = (h, o); ty_is = refl }
make_one_of ts kind ty (t_one _ _ _) h o = record { typed = (h, o); ty_is = refl }
make_one_of ts kind ty (t_entry _ _ _ _) h o = record { typed = (h, o); ty_is = refl }
make_one_of ts kind ty (t_two _ _ _ _) h o = record { typed = (h, o); ty_is = refl }
make_one_of ts kind ty (t_three _ _ _ _ _) h o = record { typed = (h, o); ty_is = refl }

pub make_one_value : (ts : List Ty) (i : Inputs) (kind : Kind) (ty : Ty) (t : Term) → IsTerm ts t → IsOne kind (type_of t) ty
    → value i (make_one kind ty t) ≡ one_number kind (type_of t) ty (value i t)
make_one_value ts i kind ty (t_const a raw) h o = fit_is ty _ (one_holds kind a ty _ o (pattern_holds a raw h))
make_one_value ts i kind ty (t_read _ _) h o = refl
make_one_value ts i kind ty (t_one _ _ _) h o = refl
make_one_value ts i kind ty (t_entry _ _ _ _) h o = refl
make_one_value ts i kind ty (t_two _ _ _ _) h o = refl
make_one_value ts i kind ty (t_three _ _ _ _ _) h o = refl

-- ---- entries of tables
pub make_entry_of : (ts : List Ty) (n : ℕ) (es : List ℕ) (ty : Ty) (t : Term) → IsTerm ts t → AreEntriesOf ty es → IsIndexOf es (type_of t) → IsOf ts ty (make_entry n es ty t)
make_entry_of ts n es ty (t_const a raw) h e o = constant_entry ts n es ty a raw e
make_entry_of ts n es ty (t_read _ _) h e o = record { typed = (h, e, o); ty_is = refl }
make_entry_of ts n es ty (t_one _ _ _) h e o = record { typed = (h, e, o); ty_is = refl }
make_entry_of ts n es ty (t_entry _ _ _ _) h e o = record { typed = (h, e, o); ty_is = refl }
make_entry_of ts n es ty (t_two _ _ _ _) h e o = record { typed = (h, e, o); ty_is = refl }
make_entry_of ts n es ty (t_three _ _ _ _ _) h e o = record { typed = (h, e, o); ty_is = refl }

pub make_entry_value : (i : Inputs) (n : ℕ) (es : List ℕ) (ty : Ty) (t : Term) → value i (make_entry n es ty t) ≡ entry_number es ty (value i t)
make_entry_value i n es ty (t_const a raw) = refl
make_entry_value i n es ty (t_read _ _) = refl
make_entry_value i n es ty (t_one _ _ _) = refl
make_entry_value i n es ty (t_entry _ _ _ _) = refl
make_entry_value i n es ty (t_two _ _ _ _) = refl
make_entry_value i n es ty (t_three _ _ _ _ _) = refl

-- ---- two arguments
two_from : (kind : Kind) (a b ty : Ty) → IsOperator (binary_of kind) a b ty → IsTwo kind a b ty
two_from k.RdMem a b ty o = absurd o
two_from _ a b ty o = o

two_is : (i : Inputs) (kind : Kind) (a b ty : Ty) (x y : ℤ) → IsOperator (binary_of kind) a b ty → two_number i kind ty a x b y ≡ operator_number (binary_of kind) a x b y
two_is i k.RdMem a b ty x y o = absurd o
two_is i _ a b ty x y o = refl

pub make_two_of : (ts : List Ty) (kind : Kind) (ty : Ty) (s t : Term) → IsTerm ts s → IsTerm ts t → IsOperator (binary_of kind) (type_of s) (type_of t) ty → IsOf ts ty (make_two kind ty s t)
make_two_of ts kind ty (t_const a x) (t_const b y) g h o = const_of ts ty _
make_two_of ts kind ty s t g h o = record { typed = (g, h, two_from kind (type_of s) (type_of t) ty o); ty_is = refl }

pub make_two_value : (ts : List Ty) (i : Inputs) (kind : Kind) (ty : Ty) (s t : Term) → IsTerm ts s → IsTerm ts t → IsOperator (binary_of kind) (type_of s) (type_of t) ty
    → value i (make_two kind ty s t) ≡ operator_number (binary_of kind) (type_of s) (value i s) (type_of t) (value i t)
make_two_value ts i kind ty (t_const a x) (t_const b y) g h o = fit_is ty _ (operator_holds (binary_of kind) a b ty _ _ o (pattern_holds a x g) (pattern_holds b y h))
make_two_value ts i kind ty s t g h o = two_is i kind (type_of s) (type_of t) ty (value i s) (value i t) o

-- ---- casts
pub cast_of : (ts : List Ty) (ty : Ty) (t : Term) → IsTerm ts t → IsOf ts ty (cast_to ty t)
cast_of ts ty t h =
    cond_both (same_ty (type_of t) ty) t (make_one k.Cast ty t) (IsOf ts ty)
    (λ e. record { typed = h; ty_is = same_ty_is (type_of t) ty e })
    (λ e. make_one_of ts k.Cast ty t h tt)

pub cast_value : (ts : List Ty) (i : Inputs) → AreInputs ts i → (ty : Ty) (t : Term) → IsTerm ts t → value i (cast_to ty t) ≡ fit ty (value i t)
cast_value ts i g ty t h =
    cond_both (same_ty (type_of t) ty) t (make_one k.Cast ty t) (λ x. value i x ≡ fit ty (value i t))
    (λ e. sym (fit_is ty (value i t) (subst (λ (z : Ty). HoldsNumber z (value i t)) (same_ty_is (type_of t) ty e) (value_holds ts i g t h))))
    (λ e. make_one_value ts i k.Cast ty t h tt)

-- a cast to a type that holds the number changes nothing
pub cast_kept : (ts : List Ty) (i : Inputs) → AreInputs ts i → (ty : Ty) (t : Term) → IsTerm ts t → Embeds (type_of t) ty → value i (cast_to ty t) ≡ value i t
cast_kept ts i g ty t h e = cast_value ts i g ty t h ∙ fit_is ty (value i t) (e (value i t) (value_holds ts i g t h))

-- ---- choices
common_same : (a ty : Ty) → IsCommon a a ty → a ≡ ty
common_same a ty h = ty_is a ty (sign a.signed ∙ sym h.signed) (wide a.signed a.width ∙ sym h.width)
  where
    sign : (s : Bool) → s ≡ (s || s)
    sign true = refl
    sign false = refl

    wide : (s : Bool) (w : ℕ) → w ≡ max (cond (s || s) (cond s w (w + 1)) w) (cond (s || s) (cond s w (w + 1)) w)
    wide true w = omega arith
    wide false w = omega arith

arms_of : (ts : List Ty) (ty : Ty) (c x y : Term) → IsTerm ts c → type_of c ≡ u1 → IsTerm ts x → IsTerm ts y → IsCommon (type_of x) (type_of y) ty
    → IsOf ts ty (cond (same_term x y) x (t_three k.Mux ty c x y))
arms_of ts ty c x y h e p q t =
    cond_both (same_term x y) x (t_three k.Mux ty c x y) (IsOf ts ty)
    (λ s. record { typed = p; ty_is = common_same (type_of x) ty (subst (λ (z : Term). IsCommon (type_of x) (type_of z) ty) (sym (same_term_is x y s)) t) })
    (λ s. record { typed = (h, p, q, record { condition = e; common = t }); ty_is = refl })

arms_value : (i : Inputs) (ty : Ty) (c x y : Term) → value i (cond (same_term x y) x (t_three k.Mux ty c x y)) ≡ cond (is_true (value i c)) (value i x) (value i y)
arms_value i ty c x y =
    cond_both (same_term x y) x (t_three k.Mux ty c x y) (λ z. value i z ≡ cond (is_true (value i c)) (value i x) (value i y))
    (λ s. either (is_true (value i c)) (value i x) (value i y) (ap (value i) (same_term_is x y s)))
    (λ s. refl)
  where
    either : (d : Bool) (m n : ℤ) → m ≡ n → m ≡ cond d m n
    either true m n e = refl
    either false m n e = e

pub mux_of : (ts : List Ty) (ty : Ty) (c x y : Term) → IsTerm ts c → type_of c ≡ u1 → IsTerm ts x → IsTerm ts y → IsCommon (type_of x) (type_of y) ty → IsOf ts ty (make_mux ty c x y)
mux_of ts ty (t_const a raw) x y h e p q t = cond_both (is_true (value_of a raw)) x y (λ z. IsOf ts ty (cast_to ty z)) (λ d. cast_of ts ty x p) (λ d. cast_of ts ty y q)
mux_of ts ty (t_read l a) x y h e p q t = arms_of ts ty (t_read l a) x y h e p q t
mux_of ts ty (t_one l a u) x y h e p q t = arms_of ts ty (t_one l a u) x y h e p q t
mux_of ts ty (t_entry n es a u) x y h e p q t = arms_of ts ty (t_entry n es a u) x y h e p q t
mux_of ts ty (t_two l a u v) x y h e p q t = arms_of ts ty (t_two l a u v) x y h e p q t
mux_of ts ty (t_three l a u v w) x y h e p q t = arms_of ts ty (t_three l a u v w) x y h e p q t

pub mux_value : (ts : List Ty) (i : Inputs) → AreInputs ts i → (ty : Ty) (c x y : Term) → IsTerm ts x → IsTerm ts y → IsCommon (type_of x) (type_of y) ty
    → value i (make_mux ty c x y) ≡ cond (is_true (value i c)) (value i x) (value i y)
mux_value ts i g ty (t_const a raw) x y p q t = arm ty i x y (is_true (value_of a raw)) (cast_kept ts i g ty x p t.first) (cast_kept ts i g ty y q t.second)
  where
    arm : (ty : Ty) (i : Inputs) (x y : Term) (d : Bool) → value i (cast_to ty x) ≡ value i x → value i (cast_to ty y) ≡ value i y → value i (cast_to ty (cond d x y)) ≡ cond d (value i x) (value i y)
    arm ty i x y true e f = e
    arm ty i x y false e f = f
mux_value ts i g ty (t_read l a) x y p q t = arms_value i ty (t_read l a) x y
mux_value ts i g ty (t_one l a u) x y p q t = arms_value i ty (t_one l a u) x y
mux_value ts i g ty (t_entry n es a u) x y p q t = arms_value i ty (t_entry n es a u) x y
mux_value ts i g ty (t_two l a u v) x y p q t = arms_value i ty (t_two l a u v) x y
mux_value ts i g ty (t_three l a u v w) x y p q t = arms_value i ty (t_three l a u v w) x y

-- ---- conditions
pub true_truth : (d : Bool) → is_true (truth d) ≡ d
true_truth true = refl
true_truth false = refl

ne_zero : (a : Ty) → IsBinaryType b.Ne a u1 u1
ne_zero a = record { exists = record { unmixed = refl; narrow = narrow a.signed a.width a.most_width }; signed = refl; width = refl }
  where
    narrow : (s : Bool) (w : ℕ) → w ≤ 128 → max (cond (s || false) (cond s w (w + 1)) w) (cond (s || false) 2 1) ≤ 128
    narrow true w h = omega arith
    narrow false w h = omega arith

pub zero_of : (ts : List Ty) → IsOf ts u1 zero_term
zero_of ts = record { typed = lit< tt; ty_is = refl }

pub one_of : (ts : List Ty) → IsOf ts u1 one_term
one_of ts = record { typed = lit< tt; ty_is = refl }

pub condition_of : (ts : List Ty) (t : Term) → IsTerm ts t → IsOf ts u1 (condition t)
condition_of ts t h =
    cond_both (same_ty (type_of t) u1) t (make_two k.Ne u1 t zero_term) (IsOf ts u1)
    (λ e. record { typed = h; ty_is = same_ty_is (type_of t) u1 e })
    (λ e. make_two_of ts k.Ne u1 t zero_term h (zero_of ts).typed (ne_zero (type_of t)))

pub condition_true : (ts : List Ty) (i : Inputs) (t : Term) → IsTerm ts t → is_true (value i (condition t)) ≡ is_true (value i t)
condition_true ts i t h =
    cond_both (same_ty (type_of t) u1) t (make_two k.Ne u1 t zero_term) (λ z. is_true (value i z) ≡ is_true (value i t))
    (λ e. refl)
    (λ e. ap is_true (make_two_value ts i k.Ne u1 t zero_term h (zero_of ts).typed (ne_zero (type_of t))) ∙ true_truth (is_true (value i t)))

lnot_typed : IsUnaryType unary.Lnot u1 u1
lnot_typed = record { signed = refl; width = refl }

land_typed : IsBinaryType b.Land u1 u1 u1
land_typed = record { exists = record { unmixed = refl; narrow = lit≤ tt }; signed = refl; width = refl }

pub lnot_of : (ts : List Ty) (t : Term) → IsOf ts u1 t → IsOf ts u1 (make_one k.Lnot u1 t)
lnot_of ts t h = make_one_of ts k.Lnot u1 t h.typed (subst (λ (z : Ty). IsUnaryType unary.Lnot z u1) (sym h.ty_is) lnot_typed)

pub lnot_true : (ts : List Ty) (i : Inputs) (t : Term) → IsOf ts u1 t → is_true (value i (make_one k.Lnot u1 t)) ≡ not (is_true (value i t))
lnot_true ts i t h =
    ap is_true (make_one_value ts i k.Lnot u1 t h.typed (subst (λ (z : Ty). IsUnaryType unary.Lnot z u1) (sym h.ty_is) lnot_typed)) ∙ true_truth (not (is_true (value i t)))

land_at : (a c : Ty) → a ≡ u1 → c ≡ u1 → IsBinaryType b.Land a c u1
land_at a c e f = subst (λ (z : Ty). IsBinaryType b.Land z c u1) (sym e) (subst (λ (z : Ty). IsBinaryType b.Land u1 z u1) (sym f) land_typed)

pub land_of : (ts : List Ty) (s t : Term) → IsOf ts u1 s → IsOf ts u1 t → IsOf ts u1 (make_two k.Land u1 s t)
land_of ts s t g h = make_two_of ts k.Land u1 s t g.typed h.typed (land_at (type_of s) (type_of t) g.ty_is h.ty_is)

pub land_true : (ts : List Ty) (i : Inputs) (s t : Term) → IsOf ts u1 s → IsOf ts u1 t → is_true (value i (make_two k.Land u1 s t)) ≡ (is_true (value i s) && is_true (value i t))
land_true ts i s t g h =
    ap is_true (make_two_value ts i k.Land u1 s t g.typed h.typed (land_at (type_of s) (type_of t) g.ty_is h.ty_is)) ∙ true_truth (is_true (value i s) && is_true (value i t))
