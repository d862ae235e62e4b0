use Rattle.std.proofs.Common.{refl}
use Rattle.ix_lex.proofs.number.unsized_kind.Goals as goal

pub returns : goal.returns
returns c = record { ty = _; bits = _; is = refl; holds = record { plain = refl; width = refl; value = refl; least = c.least_width-width.ensures.least } }
