use Rattle.std.proofs.Common.{refl}
use Rattle.ix_bits.proofs.Same.{ty_is}
use Rattle.ix_terms.proofs.term.u1.Goals as goal

pub returns : goal.returns
returns c = ty_is _ _ refl refl
