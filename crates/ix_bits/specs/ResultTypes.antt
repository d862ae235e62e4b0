-- The types of results (CoreDSL 2, arithmetic that widens; the exact widths and the refusals are this project's choice).
use Rattle.std.specs.Prelude.{◌≡◌, ℕ, ℤ, ◌+◌, ◌≤◌, max, Bool, true, false, not, ◌||◌, if◌then◌else◌}
use Rattle.ix_bits.specs.declared.number.Ty.{Ty}
use Rattle.ix_bits.specs.Types.{HoldsNumber}
use Rattle.ix_bits.specs.declared.operator.BinOp.{BinOp}
use Rattle.ix_bits.specs.declared.operator.BinOp.TheVariants.{Add, Sub, Mul, And, Or, Xor, Shl, Shr, Eq, Ne, Lt, Le, Gt, Ge, Land, Lor, Concat}
use Rattle.ix_bits.specs.declared.operator.UnOp.{UnOp}
use Rattle.ix_bits.specs.declared.operator.UnOp.TheVariants.{Neg, Not, Lnot}

-- the width at which a type goes into a signed one, or into an unsigned one where both are unsigned
abbrev pub width_in : Bool → Ty → ℕ
width_in signed ty = if signed then (if ty.signed then ty.width else ty.width + 1) else ty.width

-- the smallest type that holds both: unsigned where both are, else signed
abbrev pub common_signed : Ty → Ty → Bool
common_signed a b = a.signed || b.signed

abbrev pub common_width : Ty → Ty → ℕ
common_width a b = max (width_in (common_signed a b) a) (width_in (common_signed a b) b)

-- the second type holds every number of the first
abbrev pub Embeds : Ty → Ty → Type 0
Embeds a b = (n : ℤ) → HoldsNumber a n → HoldsNumber b n

-- whether the result is signed
abbrev pub binary_signed : BinOp → Ty → Ty → Bool
binary_signed Add a b = common_signed a b
binary_signed Sub a b = true
binary_signed Mul a b = common_signed a b
binary_signed And a b = a.signed
binary_signed Or a b = a.signed
binary_signed Xor a b = a.signed
binary_signed Shl a b = a.signed
binary_signed Shr a b = a.signed
binary_signed Eq a b = false
binary_signed Ne a b = false
binary_signed Lt a b = false
binary_signed Le a b = false
binary_signed Gt a b = false
binary_signed Ge a b = false
binary_signed Land a b = false
binary_signed Lor a b = false
binary_signed Concat a b = false

-- the width of the result
abbrev pub binary_width : BinOp → Ty → Ty → ℕ
binary_width Add a b = common_width a b + 1
binary_width Sub a b = common_width a b + 1
binary_width Mul a b = a.width + b.width
binary_width And a b = max a.width b.width
binary_width Or a b = max a.width b.width
binary_width Xor a b = max a.width b.width
binary_width Shl a b = a.width
binary_width Shr a b = a.width
binary_width Eq a b = 1
binary_width Ne a b = 1
binary_width Lt a b = 1
binary_width Le a b = 1
binary_width Gt a b = 1
binary_width Ge a b = 1
binary_width Land a b = 1
binary_width Lor a b = 1
binary_width Concat a b = a.width + b.width

-- the width of the widest number that the operation meets: its result, or the common type of two numbers compared
abbrev pub widest : BinOp → Ty → Ty → ℕ
widest Eq a b = common_width a b
widest Ne a b = common_width a b
widest Lt a b = common_width a b
widest Le a b = common_width a b
widest Gt a b = common_width a b
widest Ge a b = common_width a b
widest op a b = binary_width op a b

-- bits of a signed and of an unsigned number are never joined, and no shift goes by a signed number
abbrev pub is_mixed : BinOp → Ty → Ty → Bool
is_mixed And a b = if a.signed then not b.signed else b.signed
is_mixed Or a b = if a.signed then not b.signed else b.signed
is_mixed Xor a b = if a.signed then not b.signed else b.signed
is_mixed Shl a b = b.signed
is_mixed Shr a b = b.signed
is_mixed op a b = false

-- the result has a type: no width passes 128, and the signs go together
pub record IsBinary (op : BinOp) (a b : Ty) : Type 0 where
  pub unmixed : is_mixed op a b ≡ false
  pub narrow : widest op a b ≤ 128

abbrev pub unary_signed : UnOp → Ty → Bool
unary_signed Neg a = true
unary_signed Not a = a.signed
unary_signed Lnot a = false

abbrev pub unary_width : UnOp → Ty → ℕ
unary_width Neg a = a.width + 1
unary_width Not a = a.width
unary_width Lnot a = 1
