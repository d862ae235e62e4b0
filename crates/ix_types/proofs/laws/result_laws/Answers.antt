use Rattle.std.proofs.Common.{◌≡◌, ℕ, ℤ, Bool}
use Rattle.ix_bits.specs.declared.number.Ty.{Ty}
use Rattle.ix_bits.specs.Types.{HoldsNumber, IsWithin}
use Rattle.ix_bits.proofs.Embeddings.{within, held}
use Rattle.ix_bits.proofs.InRange.{binary_holds, unary_holds}
use Rattle.ix_types.proofs.laws.result_laws.Goals as goal

holds_as : (ty : Ty) (s : Bool) (w : ℕ) (n : ℤ) → ty.signed ≡ s → ty.width ≡ w → IsWithin s w n → HoldsNumber ty n
holds_as ty s w n e f h = held ty n (rw (e, f) h)

pub returns-clause-binary : goal.returns-clause-binary
returns-clause-binary c = λ op a b ty x y t p q. holds_as ty _ _ _ t.signed t.width (binary_holds op a b x y (within a x p) (within b y q))

pub returns-clause-unary : goal.returns-clause-unary
returns-clause-unary c = λ op a ty x t p. holds_as ty _ _ _ t.signed t.width (unary_holds op a x (within a x p))
