-- The types of results, as the operators' crate tells them and as they are judged.
use Rattle.std.proofs.Common.{◌≡◌, ℕ, ◌<◌, ◌≤◌, ap, arith, true, false, max, min, Result, Ok, Err, refl, sym, ◌∙◌, nat_lt, lit<}
use Rattle.std.proofs.lemmas.Bool.{lt-ltb, le-ltb, cond-true, cond-false, false≢true}
use Rattle.std.proofs.Math.Nat.{max-le}
use Rattle.ix_bits.specs.declared.number.Ty.{Ty}
use Rattle.ix_bits.specs.declared.operator.BinOp.{BinOp}
use Rattle.ix_bits.specs.declared.operator.BinOp.TheVariants as Op
use Rattle.ix_bits.specs.declared.operator.UnOp.{UnOp}
use Rattle.ix_bits.specs.NearTypes.{type_near, int_type}
use Rattle.ix_bits.specs.ResultTypes.{is_mixed, widest, binary_signed, binary_width, unary_signed, unary_width, common_signed, common_width}
use Rattle.ix_bits.proofs.Same.{ty_is}
use Rattle.ix_tree.specs.declared.token.Span.{Span}
use Rattle.ix_types.specs.Results.{IsBinaryType, IsUnaryType, IsCommon}
use Rattle.ix_typing.specs.Refusals.{Refusal, too_wide, mixed, refuse}
use Rattle.ix_typing.specs.Expressions.{unary_type, binary_type, common_type}

-- the type of its signedness and width
pub near_is : (ty : Ty) (s : _) (w : ℕ) → ty.signed ≡ s → ty.width ≡ w → type_near s w ≡ ty
near_is ty s w e f =
    let n : max 1 (min w 128) ≡ ty.width = omega (arith, ty.some_width, ty.most_width) in
    ty_is (type_near s w) ty (sym e) n

not_wide : (w : ℕ) → w ≤ 128 → nat_lt 128 w ≡ false
not_wide w h = le-ltb 128 w h

-- numbers of unlike signs meet only in types that there are
mixed_narrow : (op : BinOp) (a b : Ty) → is_mixed op a b ≡ true → widest op a b ≤ 128
mixed_narrow Op.And a b e = max-le a.most_width b.most_width
mixed_narrow Op.Or a b e = max-le a.most_width b.most_width
mixed_narrow Op.Xor a b e = max-le a.most_width b.most_width
mixed_narrow Op.Shl a b e = a.most_width
mixed_narrow Op.Shr a b e = a.most_width
mixed_narrow _ a b e = absurd (false≢true e)

pub unary_told : (s : Span) (op : UnOp) (a ty : Ty) → IsUnaryType op a ty → unary_type s op a ≡ Ok ty
unary_told s op a ty t =
    let n : unary_width op a ≤ 128 = omega (arith, t.width, ty.most_width) in
    cond-false (nat_lt 128 (unary_width op a)) (refuse too_wide s) (Ok (type_near (unary_signed op a) (unary_width op a))) (not_wide _ n) ∙ ap Ok (near_is ty (unary_signed op a) (unary_width op a) t.signed t.width)

pub unary_wide : (s : Span) (op : UnOp) (a : Ty) → 128 < unary_width op a → unary_type s op a ≡ refuse too_wide s
unary_wide s op a h = cond-true (nat_lt 128 (unary_width op a)) (refuse too_wide s) (Ok (type_near (unary_signed op a) (unary_width op a))) (lt-ltb 128 (unary_width op a) h)

pub common_told : (s : Span) (a b ty : Ty) → IsCommon a b ty → common_type s a b ≡ Ok ty
common_told s a b ty t =
    let n : common_width a b ≤ 128 = omega (arith, t.width, ty.most_width) in
    cond-false (nat_lt 128 (common_width a b)) (refuse too_wide s) (Ok (type_near (common_signed a b) (common_width a b))) (not_wide _ n) ∙ ap Ok (near_is ty (common_signed a b) (common_width a b) t.signed t.width)

pub common_wide : (s : Span) (a b : Ty) → 128 < common_width a b → common_type s a b ≡ refuse too_wide s
common_wide s a b h = cond-true (nat_lt 128 (common_width a b)) (refuse too_wide s) (Ok (type_near (common_signed a b) (common_width a b))) (lt-ltb 128 (common_width a b) h)

pub binary_told : (s : Span) (op : BinOp) (a b ty : Ty) → IsBinaryType op a b ty → binary_type s op a b ≡ Ok ty
binary_told s op a b ty t =
    cond-false (nat_lt 128 (widest op a b)) (refuse too_wide s) _ (not_wide _ t.exists.narrow)
    ∙ cond-false (is_mixed op a b) (refuse mixed s) (Ok (type_near (binary_signed op a b) (binary_width op a b))) t.exists.unmixed
    ∙ ap Ok (near_is ty (binary_signed op a b) (binary_width op a b) t.signed t.width)

pub binary_wide : (s : Span) (op : BinOp) (a b : Ty) → 128 < widest op a b → binary_type s op a b ≡ refuse too_wide s
binary_wide s op a b h = cond-true (nat_lt 128 (widest op a b)) (refuse too_wide s) _ (lt-ltb 128 (widest op a b) h)

pub binary_mixed : (s : Span) (op : BinOp) (a b : Ty) → is_mixed op a b ≡ true → binary_type s op a b ≡ refuse mixed s
binary_mixed s op a b h =
    cond-false (nat_lt 128 (widest op a b)) (refuse too_wide s) _ (not_wide _ (mixed_narrow op a b h))
    ∙ cond-true (is_mixed op a b) (refuse mixed s) (Ok (type_near (binary_signed op a b) (binary_width op a b))) h

-- the type `int` of the code
pub int_is : (ty : Ty) → ty.signed ≡ true → ty.width ≡ 32 → int_type ≡ ty
int_is ty e f = sym (ty_is ty int_type e f)
