use Rattle.ix_check_parts.proofs.ResultTypes.{unary_told}
use Rattle.ix_check_parts.proofs.node.unary_type.Goals as goal

pub returns-in-Ok : goal.returns-in-Ok
returns-in-Ok c = unary_told c.args.span c.args.op c.args.a _ c.in-Ok.ensures.ok
