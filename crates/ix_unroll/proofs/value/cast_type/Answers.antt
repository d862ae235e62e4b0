use Rattle.std.proofs.Common.{ap, Some, refl}
use Rattle.ix_bits.specs.declared.number.Ty.{Ty}
use Rattle.ix_bits.specs.NearTypes.{int_type}
use Rattle.ix_bits.proofs.Same.{ty_is}
use Rattle.ix_unroll.proofs.value.cast_type.Goals as goal

pub returns-in-Int : goal.returns-in-Int
returns-in-Int c = rw (c.in-Written.is, c.in-Int.is) (ap (λ (t : Ty). Some t) (ty_is _ int_type refl refl))
