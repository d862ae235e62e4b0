-- Why an operation has no result type, and which type the result has (this project's choice).
use Rattle.std.specs.Prelude.{◌≡◌, ℕ, ◌<◌, ◌≤◌, Bool, true}
use Rattle.ix_bits.specs.declared.number.Ty.{Ty}
use Rattle.ix_bits.specs.declared.operator.BinOp.{BinOp}
use Rattle.ix_bits.specs.declared.operator.UnOp.{UnOp}
use Rattle.ix_bits.specs.ResultTypes.{Embeds, IsBinary, widest, is_mixed, common_signed, common_width, binary_signed, binary_width, unary_signed, unary_width}
use Rattle.ix_types.specs.declared.result_type.TypeErr.{TypeErr}
use Rattle.ix_types.specs.declared.result_type.TypeErr.TheVariants.{TooWide, Mixed}

-- the type of `a op b`
pub record IsBinaryType (op : BinOp) (a b ty : Ty) : Type 0 where
  pub exists : IsBinary op a b
  pub signed : ty.signed ≡ binary_signed op a b
  pub width : ty.width ≡ binary_width op a b

-- a width would pass 128, or the signs do not go together
abbrev pub IsBinaryRefusal : BinOp → Ty → Ty → TypeErr → Type 0
IsBinaryRefusal op a b TooWide = 128 < widest op a b
IsBinaryRefusal op a b Mixed = is_mixed op a b ≡ true

-- the type of `op a`
pub record IsUnaryType (op : UnOp) (a ty : Ty) : Type 0 where
  pub signed : ty.signed ≡ unary_signed op a
  pub width : ty.width ≡ unary_width op a

abbrev pub IsUnaryRefusal : UnOp → Ty → TypeErr → Type 0
IsUnaryRefusal op a TooWide = 128 < unary_width op a
IsUnaryRefusal op a Mixed = ⊥

-- the smallest type that holds the numbers of both
pub record IsCommon (a b ty : Ty) : Type 0 where
  pub signed : ty.signed ≡ common_signed a b
  pub width : ty.width ≡ common_width a b
  pub first : Embeds a ty
  pub second : Embeds b ty
  pub least : (t : Ty) → Embeds a t → Embeds b t → ty.width ≤ t.width

abbrev pub IsCommonRefusal : Ty → Ty → TypeErr → Type 0
IsCommonRefusal a b TooWide = 128 < common_width a b
IsCommonRefusal a b Mixed = ⊥

-- the type of this signedness and width
pub record IsSized (s : Bool) (w : ℕ) (ty : Ty) : Type 0 where
  pub sign : ty.signed ≡ s
  pub width : ty.width ≡ w

abbrev pub IsTooWide : ℕ → TypeErr → Type 0
IsTooWide width TooWide = 128 < width
IsTooWide width Mixed = ⊥
