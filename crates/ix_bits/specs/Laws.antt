-- Laws of the definitions.
use Rattle.std.specs.Prelude.{◌≡◌, ◌<◌, ◌≤◌, ◌^◌, ℕ, ℤ}
use Rattle.ix_bits.specs.declared.number.Ty.{Ty}
use Rattle.ix_bits.specs.declared.operator.BinOp.{BinOp}
use Rattle.ix_bits.specs.declared.operator.UnOp.{UnOp}
use Rattle.ix_bits.specs.Types.{IsFit, HoldsNumber, IsWithin}
use Rattle.ix_bits.specs.ResultTypes.{binary_signed, binary_width, unary_signed, unary_width, common_signed, common_width, Embeds}
use Rattle.ix_bits.specs.Operators.{pattern_of, value_of, fit, binary_number, unary_number}

-- `fit` gives a number that fits, and no other number does
pub record FitIsTheOne (ty : Ty) (n : ℤ) : Type 0 where
  pub fits : IsFit ty n (fit ty n)
  pub only : (m : ℤ) → IsFit ty n m → m ≡ fit ty n

-- the patterns of a width and the numbers of a type stand for each other
pub record PatternsAreNumbers (ty : Ty) : Type 0 where
  pub number : (raw : ℕ) → raw < 2 ^ ty.width → HoldsNumber ty (value_of ty raw) × (pattern_of ty.width (value_of ty raw) ≡ raw)
  pub pattern : (n : ℤ) → HoldsNumber ty n → (pattern_of ty.width n < 2 ^ ty.width) × (value_of ty (pattern_of ty.width n) ≡ n)

-- the number of an operation lies in its result's type
pub record OperationsAreInRange (a b : Ty) (x y : ℤ) : Type 0 where
  pub binary : (op : BinOp) → IsWithin (binary_signed op a b) (binary_width op a b) (binary_number op a x b y)
  pub unary : (op : UnOp) → IsWithin (unary_signed op a) (unary_width op a) (unary_number op a x)

-- the common type of two types holds the numbers of both, and no narrower type does
pub record CommonIsSmallest (a b : Ty) : Type 0 where
  pub first : (n : ℤ) → HoldsNumber a n → IsWithin (common_signed a b) (common_width a b) n
  pub second : (n : ℤ) → HoldsNumber b n → IsWithin (common_signed a b) (common_width a b) n
  pub least : (t : Ty) → Embeds a t → Embeds b t → common_width a b ≤ t.width

abbrev pub FitLaw : Type 0
FitLaw = (ty : Ty) (n : ℤ) → FitIsTheOne ty n

abbrev pub PatternLaw : Type 0
PatternLaw = (ty : Ty) → PatternsAreNumbers ty

abbrev pub RangeLaw : Type 0
RangeLaw = (a b : Ty) (x y : ℤ) → HoldsNumber a x → HoldsNumber b y → OperationsAreInRange a b x y

abbrev pub CommonLaw : Type 0
CommonLaw = (a b : Ty) → CommonIsSmallest a b
