-- The number of each operation (CoreDSL 2: arithmetic is exact; only a cast, `~` and `<<` fit a number to a type).
use Rattle.std.specs.Prelude.{ℕ, ◌+◌, ◌-◌, ◌*◌, ◌/◌, ◌%◌, ◌^◌, ℤ, pos, neg_ℤ, ◌+ℤ◌, ◌-ℤ◌, ◌*ℤ◌, Bool, not, ◌&&◌, ◌||◌, if◌then◌else◌, unsigned_abs, bit_and, bit_or, bit_xor}
use Rattle.std.specs.Int.{int_rem_euclid, int_shr}
use Rattle.std.specs.Ordering.{int_cmp, is_eq, is_ne, is_lt, is_le, is_gt, is_ge}
use Rattle.ix_bits.specs.declared.number.Ty.{Ty}
use Rattle.ix_bits.specs.declared.operator.BinOp.{BinOp}
use Rattle.ix_bits.specs.declared.operator.BinOp.TheVariants.{Add, Sub, Mul, And, Or, Xor, Shl, Shr, Eq, Ne, Lt, Le, Gt, Ge, Land, Lor, Concat}
use Rattle.ix_bits.specs.declared.operator.UnOp.{UnOp}
use Rattle.ix_bits.specs.declared.operator.UnOp.TheVariants.{Neg, Not, Lnot}
use Rattle.ix_bits.specs.Types.{number_of}
use Rattle.ix_bits.specs.ResultTypes.{binary_width}

-- the pattern of a number in a width: its remainder by 2^width, which is never negative
abbrev pub pattern_of : ℕ → ℤ → ℕ
pattern_of width n = unsigned_abs (int_rem_euclid n (pos (2 ^ width)))

-- the number that a pattern stands for in a type
abbrev pub value_of : Ty → ℕ → ℤ
value_of ty raw = number_of ty.signed ty.width raw

-- the one number of the type that is congruent to n modulo 2^width
abbrev pub fit : Ty → ℤ → ℤ
fit ty n = value_of ty (pattern_of ty.width n)

-- the number of a truth value
abbrev pub truth : Bool → ℤ
truth b = if b then pos 1 else pos 0

-- a number counts as true where it is not 0
abbrev pub is_true : ℤ → Bool
is_true x = is_ne (int_cmp x (pos 0))

-- an operation on the bits of two numbers of one signedness, the narrower extended to the width of the wider
abbrev pub by_bits : (ℕ → ℕ → ℕ) → BinOp → Ty → ℤ → Ty → ℤ → ℤ
by_bits f op a x b y =
    let width = binary_width op a b
    in number_of a.signed width (f (pattern_of width x) (pattern_of width y))

-- the number of `x op y`, of x in type a and y in type b
abbrev pub binary_number : BinOp → Ty → ℤ → Ty → ℤ → ℤ
binary_number Add a x b y = x +ℤ y
binary_number Sub a x b y = x -ℤ y
binary_number Mul a x b y = x *ℤ y
binary_number And a x b y = by_bits bit_and And a x b y
binary_number Or a x b y = by_bits bit_or Or a x b y
binary_number Xor a x b y = by_bits bit_xor Xor a x b y
binary_number Shl a x b y = fit a (x *ℤ pos (2 ^ unsigned_abs y))
binary_number Shr a x b y = int_shr x (unsigned_abs y)
binary_number Eq a x b y = truth (is_eq (int_cmp x y))
binary_number Ne a x b y = truth (is_ne (int_cmp x y))
binary_number Lt a x b y = truth (is_lt (int_cmp x y))
binary_number Le a x b y = truth (is_le (int_cmp x y))
binary_number Gt a x b y = truth (is_gt (int_cmp x y))
binary_number Ge a x b y = truth (is_ge (int_cmp x y))
binary_number Land a x b y = truth (is_true x && is_true y)
binary_number Lor a x b y = truth (is_true x || is_true y)
binary_number Concat a x b y = pos (pattern_of a.width x * 2 ^ b.width + pattern_of b.width y)

-- the number of `op x`, of x in type a
abbrev pub unary_number : UnOp → Ty → ℤ → ℤ
unary_number Neg a x = neg_ℤ x
unary_number Not a x = fit a (pos 0 -ℤ pos 1 -ℤ x)
unary_number Lnot a x = truth (not (is_true x))

-- bits hi down to lo of a pattern
abbrev pub bits_between : ℕ → ℕ → ℕ → ℕ
bits_between raw hi lo = raw / 2 ^ lo % 2 ^ (hi - lo + 1)
