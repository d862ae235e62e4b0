-- Laws of result types.
use Rattle.std.specs.Prelude.{ℤ}
use Rattle.ix_bits.specs.declared.number.Ty.{Ty}
use Rattle.ix_bits.specs.declared.operator.BinOp.{BinOp}
use Rattle.ix_bits.specs.declared.operator.UnOp.{UnOp}
use Rattle.ix_bits.specs.Types.{HoldsNumber}
use Rattle.ix_bits.specs.Operators.{binary_number, unary_number}
use Rattle.ix_types.specs.Results.{IsBinaryType, IsUnaryType}

-- the number of an operation is one of its result's type
abbrev pub BinaryLaw : Type 0
BinaryLaw = (op : BinOp) (a b ty : Ty) (x y : ℤ) → IsBinaryType op a b ty → HoldsNumber a x → HoldsNumber b y → HoldsNumber ty (binary_number op a x b y)

abbrev pub UnaryLaw : Type 0
UnaryLaw = (op : UnOp) (a ty : Ty) (x : ℤ) → IsUnaryType op a ty → HoldsNumber a x → HoldsNumber ty (unary_number op a x)
