-- The test of whether one type holds each number of another.
use Rattle.std.proofs.Common.{◌≡◌, ℕ, refl, arith, Bool, true, false, cond, ◌&&◌}
use Rattle.std.specs.Prelude.{nat_le, nat_lt}
use Rattle.std.specs.Cmp.{both_ways}
use Rattle.std.proofs.lemmas.Bool.{leb-true, le-leb, ltb-true, lt-ltb, false≢true}
use Rattle.ix_bits.specs.declared.number.Ty.{Ty}
use Rattle.ix_bits.specs.ResultTypes.{Embeds}
use Rattle.ix_bits.proofs.Embeddings.{Fits, embeds_where, fits_where}
use Rattle.ix_typing.specs.Expressions.{embeds}

abbrev goes : Bool → ℕ → Bool → ℕ → Bool
goes s a t b = cond s (t && nat_le a b) (cond t (nat_lt a b) (nat_le a b))

fits : (s t : Bool) (a b : ℕ) → goes s a t b ≡ true → Fits s a t b
fits false false a b e = record { wide = leb-true a b e; signs = λ p. p }
fits false true a b e = let h = ltb-true a b e in record { wide = omega arith; signs = λ p. refl }
fits true false a b e = absurd (false≢true e)
fits true true a b e = record { wide = leb-true a b e; signs = λ p. p }

passes : (s t : Bool) (a b : ℕ) → Fits s a t b → goes s a t b ≡ true
passes false false a b f = le-leb a b f.wide
passes false true a b f = lt-ltb a b (omega (arith, f.wide))
passes true false a b f = let e = f.signs refl in cc
passes true true a b f = le-leb a b f.wide

pub embeds_true : (a b : Ty) → embeds a b ≡ true → Embeds a b
embeds_true a b e = embeds_where a b (fits a.signed b.signed a.width b.width e)

pub true_embeds : (a b : Ty) → Embeds a b → embeds a b ≡ true
true_embeds a b h = passes a.signed b.signed a.width b.width (fits_where a b h)

-- a test that is true exactly where the type embeds
pub embeds_is : (r : Bool) (a b : Ty) → (r ≡ true → Embeds a b) → (Embeds a b → r ≡ true) → r ≡ embeds a b
embeds_is r a b f g = both_ways r (embeds a b) (λ h. true_embeds a b (f h)) (λ h. g (embeds_true a b h))
