use Rattle.ix_bits.proofs.Shifts.{shr_out}
use Rattle.ix_bits.proofs.arithmetic.moved_down.Goals as goal

pub returns-else-by-lt128 : goal.returns-else-by-lt128
returns-else-by-lt128 c = shr_out c.args.bits c.args.by c.ranges.bits.fits c.if-by-lt128.false
