use Rattle.std.proofs.Common.{refl, sym}
use Rattle.ix_check_parts.proofs.ResultTypes.{int_is}
use Rattle.ix_check_parts.proofs.types.int_type.Goals as goal

pub returns : goal.returns
returns c = sym (int_is _ refl refl)
