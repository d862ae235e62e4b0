use Rattle.ix_check_parts.proofs.ResultTypes.{common_told}
use Rattle.ix_check_parts.proofs.node.common_type.Goals as goal

pub returns-in-Ok : goal.returns-in-Ok
returns-in-Ok c = common_told c.args.span c.args.a c.args.b _ c.in-Ok.ensures.ok
