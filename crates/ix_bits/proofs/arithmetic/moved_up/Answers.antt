use Rattle.ix_bits.proofs.Shifts.{shl_out}
use Rattle.ix_bits.proofs.arithmetic.moved_up.Goals as goal

pub returns-else-by-lt128 : goal.returns-else-by-lt128
returns-else-by-lt128 c = shl_out c.args.bits c.args.by 128 c.if-by-lt128.false
