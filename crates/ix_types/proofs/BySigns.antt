-- The test of `embeds`, by the two signs.
use Rattle.std.proofs.Common.{◌≡◌, ℕ, ◌<◌, ◌≤◌, refl, arith, Bool, true, false}
use mathlib.Core.Bool.{beq}
use Rattle.ix_bits.proofs.Embeddings.{Fits}

pub alike : (s t : Bool) (a b : ℕ) → beq s t ≡ true → (a ≤ b → Fits s a t b) × (Fits s a t b → a ≤ b)
alike false false a b e = (λ h. record { wide = h; signs = λ p. p }, λ f. f.wide)
alike false true a b e = cc
alike true false a b e = cc
alike true true a b e = (λ h. record { wide = h; signs = λ p. p }, λ f. f.wide)

pub into_signed : (s t : Bool) (a b : ℕ) → beq s t ≡ false → t ≡ true → (a < b → Fits s a t b) × (Fits s a t b → a < b)
into_signed false false a b e g = cc
into_signed false true a b e g = (λ h. record { wide = omega arith; signs = λ p. refl }, λ f. omega (arith, f.wide))
into_signed true false a b e g = cc
into_signed true true a b e g = cc

pub into_unsigned : (s t : Bool) (a b : ℕ) → beq s t ≡ false → t ≡ false → Fits s a t b → ⊥
into_unsigned false false a b e g f = cc
into_unsigned false true a b e g f = cc
into_unsigned true false a b e g f = let p = f.signs refl in cc
into_unsigned true true a b e g f = cc
