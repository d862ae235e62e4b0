-- Both numbers are in the common type of their types, and each operation's number is in its result's type.
use Rattle.std.proofs.Common.{ℕ, ◌+◌, ◌^◌, ◌<◌, ◌≤◌, max, arith, Bool, true, false, cond, ◌||◌, ℤ, pos, ◌*ℤ◌, bit_and, bit_or, bit_xor}
use Rattle.std.specs.Prelude.{unsigned_abs}
use Rattle.std.proofs.lemmas.Int.{ints}
use Rattle.std.proofs.lemmas.Nat.{pow_pos, and_le_l, or_lt, xor_lt}
use Rattle.ix_bits.specs.declared.number.Ty.{Ty}
use Rattle.ix_bits.specs.declared.operator.BinOp.{BinOp}
use Rattle.ix_bits.specs.declared.operator.BinOp.TheVariants.{Add, Sub, Mul, And, Or, Xor, Shl, Shr, Eq, Ne, Lt, Le, Gt, Ge, Land, Lor, Concat}
use Rattle.ix_bits.specs.declared.operator.UnOp.{UnOp}
use Rattle.ix_bits.specs.declared.operator.UnOp.TheVariants.{Neg, Not, Lnot}
use Rattle.ix_bits.specs.Types.{number_of, IsWithin}
use Rattle.ix_bits.specs.ResultTypes.{common_signed, common_width, binary_signed, binary_width, unary_signed, unary_width}
use Rattle.ix_bits.specs.Operators.{pattern_of, fit, truth, binary_number, unary_number}
use Rattle.ix_bits.proofs.Remainders.{rem_below_lem}
use Rattle.ix_bits.proofs.Ranges.{holds_wider, holds_signed, holds_sum, holds_difference, holds_negation, holds_product, holds_shift}
use Rattle.ix_bits.proofs.Results.{within_value}
use Rattle.ix_bits.proofs.Shifts.{joined_below}

left : (s t : Bool) (a b : ℕ) (x : ℤ) → 1 ≤ a → IsWithin s a x → IsWithin (s || t) (max (cond (s || t) (cond s a (a + 1)) a) (cond (s || t) (cond t b (b + 1)) b)) x
left false false a b x h p = holds_wider false a (max a b) x h (omega arith) p
left false true a b x h p = holds_signed a (max (a + 1) b) x (omega arith) p
left true false a b x h p = holds_wider true a (max a (b + 1)) x h (omega arith) p
left true true a b x h p = holds_wider true a (max a b) x h (omega arith) p

right : (s t : Bool) (a b : ℕ) (x : ℤ) → 1 ≤ b → IsWithin t b x → IsWithin (s || t) (max (cond (s || t) (cond s a (a + 1)) a) (cond (s || t) (cond t b (b + 1)) b)) x
right false false a b x h p = holds_wider false b (max a b) x h (omega arith) p
right false true a b x h p = holds_wider true b (max (a + 1) b) x h (omega arith) p
right true false a b x h p = holds_signed b (max a (b + 1)) x (omega arith) p
right true true a b x h p = holds_wider true b (max a b) x h (omega arith) p

some : (s t : Bool) (a b : ℕ) → 1 ≤ a → 1 ≤ max (cond (s || t) (cond s a (a + 1)) a) (cond (s || t) (cond t b (b + 1)) b)
some false false a b h = omega arith
some false true a b h = omega arith
some true false a b h = omega arith
some true true a b h = omega arith

pub common_left : (a b : Ty) (x : ℤ) → IsWithin a.signed a.width x → IsWithin (common_signed a b) (common_width a b) x
common_left a b x p = left a.signed b.signed a.width b.width x a.some_width p

pub common_right : (a b : Ty) (y : ℤ) → IsWithin b.signed b.width y → IsWithin (common_signed a b) (common_width a b) y
common_right a b y p = right a.signed b.signed a.width b.width y b.some_width p

pub common_some : (a b : Ty) → 1 ≤ common_width a b
common_some a b = some a.signed b.signed a.width b.width a.some_width

truth_holds : (t : Bool) → IsWithin false 1 (truth t)
truth_holds false = record { from_least = omega (arith, ints); below_past = omega (arith, ints) }
truth_holds true = record { from_least = omega (arith, ints); below_past = omega (arith, ints) }

fit_holds : (a : Ty) (n : ℤ) → IsWithin a.signed a.width (fit a n)
fit_holds a n = within_value a.signed a.width (pattern_of a.width n) a.some_width (rem_below_lem (2 ^ a.width) n (pow_pos a.width))

bits_hold : (a b : Ty) (n : ℕ) → n < 2 ^ max a.width b.width → IsWithin a.signed (max a.width b.width) (number_of a.signed (max a.width b.width) n)
bits_hold a b n h = within_value a.signed (max a.width b.width) n (omega (arith, a.some_width)) h

-- the number of an operation is one of its result's type
pub binary_holds : (op : BinOp) (a b : Ty) (x y : ℤ) → IsWithin a.signed a.width x → IsWithin b.signed b.width y → IsWithin (binary_signed op a b) (binary_width op a b) (binary_number op a x b y)
binary_holds Add a b x y p q = holds_sum (common_signed a b) (common_width a b) x y (common_some a b) (common_left a b x p) (common_right a b y q)
binary_holds Sub a b x y p q = holds_difference (common_signed a b) (common_width a b) x y (common_some a b) (common_left a b x p) (common_right a b y q)
binary_holds Mul a b x y p q = holds_product a.signed b.signed a.width b.width x y a.some_width b.some_width p q
binary_holds And a b x y p q =
    let w = max a.width b.width in
    bits_hold a b (bit_and (pattern_of w x) (pattern_of w y)) (omega (arith, and_le_l (pattern_of w x) (pattern_of w y), rem_below_lem (2 ^ w) x (pow_pos w)))
binary_holds Or a b x y p q =
    let w = max a.width b.width in
    bits_hold a b (bit_or (pattern_of w x) (pattern_of w y)) (or_lt w (pattern_of w x) (pattern_of w y) (rem_below_lem (2 ^ w) x (pow_pos w)) (rem_below_lem (2 ^ w) y (pow_pos w)))
binary_holds Xor a b x y p q =
    let w = max a.width b.width in
    bits_hold a b (bit_xor (pattern_of w x) (pattern_of w y)) (xor_lt w (pattern_of w x) (pattern_of w y) (rem_below_lem (2 ^ w) x (pow_pos w)) (rem_below_lem (2 ^ w) y (pow_pos w)))
binary_holds Shl a b x y p q = fit_holds a (x *ℤ pos (2 ^ unsigned_abs y))
binary_holds Shr a b x y p q = holds_shift a.signed a.width x (unsigned_abs y) p
binary_holds Eq a b x y p q = truth_holds _
binary_holds Ne a b x y p q = truth_holds _
binary_holds Lt a b x y p q = truth_holds _
binary_holds Le a b x y p q = truth_holds _
binary_holds Gt a b x y p q = truth_holds _
binary_holds Ge a b x y p q = truth_holds _
binary_holds Land a b x y p q = truth_holds _
binary_holds Lor a b x y p q = truth_holds _
binary_holds Concat a b x y p q =
    let n = joined_below (pattern_of a.width x) b.width (pattern_of b.width y) a.width (rem_below_lem (2 ^ b.width) y (pow_pos b.width)) (rem_below_lem (2 ^ a.width) x (pow_pos a.width)) in
    record { from_least = omega (arith, ints); below_past = omega (arith, ints, n) }

pub unary_holds : (op : UnOp) (a : Ty) (x : ℤ) → IsWithin a.signed a.width x → IsWithin (unary_signed op a) (unary_width op a) (unary_number op a x)
unary_holds Neg a x p = holds_negation a.signed a.width x a.some_width p
unary_holds Not a x p = fit_holds a _
unary_holds Lnot a x p = truth_holds _
