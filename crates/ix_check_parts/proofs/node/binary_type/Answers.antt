use Rattle.ix_check_parts.proofs.ResultTypes.{binary_told}
use Rattle.ix_check_parts.proofs.node.binary_type.Goals as goal

pub returns-in-Ok : goal.returns-in-Ok
returns-in-Ok c = binary_told c.args.span c.args.op c.args.a c.args.b _ c.in-Ok.ensures.ok
