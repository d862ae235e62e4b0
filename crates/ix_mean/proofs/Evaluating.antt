-- Values of the code as numbers.
use Rattle.std.proofs.Common.{◌≡◌, ℕ, ◌^◌, ◌<◌, ◌∙◌, ap, sym, Bool, false, ℤ, pos}
use Rattle.ix_bits.specs.declared.number.Ty.{Ty}
use Rattle.ix_bits.specs.Types.{HoldsNumber, IsFit, number_of}
use Rattle.ix_bits.specs.ResultTypes.{Embeds}
use Rattle.ix_bits.specs.Operators.{value_of, pattern_of, bits_between}
use Rattle.ix_bits.proofs.Patterns.{pattern_of_number}
use Rattle.ix_bits.proofs.Unique.{fit_is_the_one}
use Rattle.ix_bits.specs.declared.number.Value.{Value}
use Rattle.ix_mean.specs.View.{seen}
use Rattle.ix_mean.proofs.InRange.{fit_is, pattern_holds}

pub embedded_is : (a ty : Ty) (n m : ℤ) → Embeds a ty → HoldsNumber a n → IsFit ty n m → m ≡ n
embedded_is a ty n m e h f = (fit_is_the_one ty n).only m f ∙ fit_is ty n (e n h)

pub seen_holds : (v : Value) → HoldsNumber v.ty (seen v)
seen_holds v = pattern_holds v.ty v.bits.raw (rw (← v.fits) v.bits.in_width)

pub raw_below : (v : Value) → v.bits.raw < 2 ^ v.ty.width
raw_below v = rw (← v.fits) v.bits.in_width

-- a pattern of an unsigned type is its number
unsigned_is : (ty : Ty) (r : ℕ) → ty.signed ≡ false → value_of ty r ≡ pos r
unsigned_is ty r e = ap (λ (s : Bool). number_of s ty.width r) e

pub part_is : (a ty : Ty) (hi lo raw r : ℕ) → ty.signed ≡ false → raw < 2 ^ a.width → r ≡ bits_between raw hi lo
    → value_of ty r ≡ pos (bits_between (pattern_of a.width (value_of a raw)) hi lo)
part_is a ty hi lo raw r e h f =
    unsigned_is ty r e ∙ ap pos (f ∙ ap (λ (n : ℕ). bits_between n hi lo) (sym (pattern_of_number a.signed a.width raw a.some_width h)))
