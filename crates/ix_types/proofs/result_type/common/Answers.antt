use Rattle.std.proofs.Common.{◌∙◌}
use Rattle.ix_types.proofs.Smallest.{smallest}
use Rattle.ix_types.proofs.result_type.common.Goals as goal

pub returns-clause-ok : goal.returns-clause-ok
returns-clause-ok c = smallest c.args.a c.args.b _ _ c.sized.result c.either_signed.ensures (c.from.ensures ∙ c.width_of_both.ensures) c.sized.ensures.ok
