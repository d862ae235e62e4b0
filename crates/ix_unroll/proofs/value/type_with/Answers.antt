use Rattle.std.proofs.Common.{sym, refl}
use Rattle.ix_bits.proofs.Same.{type_with_is}
use Rattle.ix_unroll.proofs.value.type_with.Goals as goal

pub returns-then-width-le128 : goal.returns-then-width-le128
returns-then-width-le128 c = sym (type_with_is _ c.args.signed c.args.width refl refl)
