use Rattle.std.proofs.Common.{refl}
use Rattle.ix_lex.proofs.number.sized_kind.Goals as goal

pub returns-clause-some : goal.returns-clause-some
returns-clause-some c = record { ty = _; bits = _; is = refl; holds = record { plain = refl; type_width = refl; width = refl; value = refl } }
