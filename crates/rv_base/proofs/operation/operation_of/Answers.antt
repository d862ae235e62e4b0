use Rattle.std.proofs.Common.{arith}
use Rattle.rv_base.proofs.Past.{past}
use Rattle.rv_base.proofs.operation.operation_of.Goals as goal

pub returns-else-row-lt40 : goal.returns-else-row-lt40
returns-else-row-lt40 c = let no = c.if-row-lt40.false in past c.args.row (omega (arith, no))
