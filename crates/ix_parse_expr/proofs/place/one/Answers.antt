use Rattle.std.proofs.Common.{refl}
use Rattle.ix_parse_state.proofs.Expressions.{literal_is}
use Rattle.ix_parse_expr.proofs.place.one.Goals as goal

pub returns : goal.returns
returns c = literal_is _ _ _ _ _ refl refl refl refl
