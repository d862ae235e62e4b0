-- The types of typing are those of meaning.
use Rattle.std.proofs.Common.{◌≡◌, ◌∙◌, sym, ap, refl, ℕ, ◌≤◌, arith, Bool, true, false, Some}
use Rattle.ix_bits.specs.declared.number.Ty.{Ty}
use Rattle.ix_bits.specs.declared.operator.BinOp.{BinOp}
use Rattle.ix_bits.specs.declared.operator.BinOp.TheVariants.{Add, Sub, Mul, And, Or, Xor, Shl, Shr, Eq, Ne, Lt, Le, Gt, Ge, Land, Lor, Concat}
use Rattle.ix_bits.specs.declared.operator.UnOp.{UnOp}
use Rattle.ix_bits.specs.declared.operator.UnOp.TheVariants.{Neg, Not, Lnot}
use Rattle.ix_bits.specs.NearTypes.{type_near, type_with}
use Rattle.ix_bits.specs.ResultTypes.{widest, common_signed, common_width, binary_signed, binary_width, unary_signed, unary_width}
use Rattle.ix_bits.proofs.InRange.{common_some}
use Rattle.ix_bits.proofs.Same.{ty_is, type_with_is}
use Rattle.ix_bits.proofs.Embeddings.{embeds_where, common_fits_left, common_fits_right, common_least}
use Rattle.ix_tree.specs.declared.expr.TypeKind.{TypeKind}
use Rattle.ix_tree.specs.declared.expr.TypeKind.TheVariants as K
use Rattle.ix_tree.specs.declared.expr.TypeText.{TypeText}
use Rattle.ix_tree.specs.LoopHeads.{written_type}
use Rattle.ix_types.specs.Results.{IsBinaryType, IsUnaryType, IsCommon}
use Rattle.ix_mean.specs.EffectByName.{or_u1, type_of_text}
use Rattle.ix_typing.specs.Texts.{nearest}
use Rattle.ix_typed.specs.Expressions.{IsWritten, HasUnary, HasBinary, HasCommon}

pub near_width : (s : Bool) (w : ℕ) → 1 ≤ w → w ≤ 128 → (type_near s w).width ≡ w
near_width s w h g = omega arith

pub near_with : (s : Bool) (w : ℕ) → 1 ≤ w → w ≤ 128 → type_with s w ≡ Some (type_near s w)
near_with s w h g = type_with_is (type_near s w) s w refl (near_width s w h g)

-- a type as wide as itself
pub near_self : (ty : Ty) (s : Bool) (w : ℕ) → ty.signed ≡ s → ty.width ≡ w → ty ≡ type_near s w
near_self ty s w e f =
    let a = ty.some_width in
    let b = ty.most_width in
    ty_is ty (type_near s w) e (omega (arith, a, b, f))

-- ---- written types
pub written_is : (k : TypeKind) (ty : Ty) → IsWritten k ty → written_type k ≡ Some ty
written_is (K.Signed w) ty h = near_with true w h.1 h.0 ∙ ap Some (sym h.2)
written_is (K.Unsigned w) ty h = near_with false w h.1 h.0 ∙ ap Some (sym h.2)
written_is K.Int ty h = ap Some (sym h)
written_is K.Bool ty h = ap Some (sym h)

pub nearest_is : (k : TypeKind) (ty : Ty) → IsWritten k ty → nearest k ≡ ty
nearest_is (K.Signed w) ty h = sym h.2
nearest_is (K.Unsigned w) ty h = sym h.2
nearest_is K.Int ty h = sym h
nearest_is K.Bool ty h = sym h

pub text_is : (t : TypeText) (ty : Ty) → IsWritten t.kind ty → type_of_text t ≡ ty
text_is t ty h = ap or_u1 (written_is t.kind ty h)

-- ---- operators
pub unary_some : (op : UnOp) (a : Ty) → 1 ≤ unary_width op a
unary_some Neg a = omega arith
unary_some Not a = a.some_width
unary_some Lnot a = omega arith

pub unary_is : (op : UnOp) (a ty : Ty) → HasUnary op a ty → IsUnaryType op a ty
unary_is op a ty h = record { signed = ap (λ (t : Ty). t.signed) h.1; width = ap (λ (t : Ty). t.width) h.1 ∙ near_width (unary_signed op a) (unary_width op a) (unary_some op a) h.0 }

binary_bounds : (op : BinOp) (a b : Ty) → widest op a b ≤ 128 → (1 ≤ binary_width op a b) × (binary_width op a b ≤ 128)
binary_bounds Add a b h = (omega arith, h)
binary_bounds Sub a b h = (omega arith, h)
binary_bounds Mul a b h = (omega (arith, a.some_width), h)
binary_bounds And a b h = (omega (arith, a.some_width), h)
binary_bounds Or a b h = (omega (arith, a.some_width), h)
binary_bounds Xor a b h = (omega (arith, a.some_width), h)
binary_bounds Shl a b h = (a.some_width, h)
binary_bounds Shr a b h = (a.some_width, h)
binary_bounds Eq a b h = (omega arith, omega arith)
binary_bounds Ne a b h = (omega arith, omega arith)
binary_bounds Lt a b h = (omega arith, omega arith)
binary_bounds Le a b h = (omega arith, omega arith)
binary_bounds Gt a b h = (omega arith, omega arith)
binary_bounds Ge a b h = (omega arith, omega arith)
binary_bounds Land a b h = (omega arith, omega arith)
binary_bounds Lor a b h = (omega arith, omega arith)
binary_bounds Concat a b h = (omega (arith, a.some_width), h)

pub binary_is : (op : BinOp) (a b ty : Ty) → HasBinary op a b ty → IsBinaryType op a b ty
binary_is op a b ty h =
    let w = binary_bounds op a b h.0 in
    record {
      exists = record { unmixed = h.1; narrow = h.0 };
      signed = ap (λ (t : Ty). t.signed) h.2;
      width = ap (λ (t : Ty). t.width) h.2 ∙ near_width (binary_signed op a b) (binary_width op a b) w.0 w.1;
    }

pub binary_with : (op : BinOp) (a b : Ty) → widest op a b ≤ 128 → type_with (binary_signed op a b) (binary_width op a b) ≡ Some (type_near (binary_signed op a b) (binary_width op a b))
binary_with op a b h = let w = binary_bounds op a b h in near_with (binary_signed op a b) (binary_width op a b) w.0 w.1

pub common_is : (a b ty : Ty) → HasCommon a b ty → IsCommon a b ty
common_is a b ty h =
    let e : ty.signed ≡ common_signed a b = ap (λ (t : Ty). t.signed) h.1 in
    let f : ty.width ≡ common_width a b = ap (λ (t : Ty). t.width) h.1 ∙ near_width (common_signed a b) (common_width a b) (common_some a b) h.0 in
    record {
      signed = e;
      width = f;
      first = embeds_where a ty (rw (e, f) (common_fits_left a b));
      second = embeds_where b ty (rw (e, f) (common_fits_right a b));
      least = λ t p q. rw f (common_least a b t p q);
    }
