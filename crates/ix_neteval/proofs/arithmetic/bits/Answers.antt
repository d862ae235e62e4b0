use Rattle.std.proofs.Common.{◌+◌, ◌-◌, ◌/◌, ◌^◌}
use Rattle.ix_neteval.proofs.Masks.{masked}
use Rattle.ix_neteval.proofs.arithmetic.bits.Goals as goal

pub returns : goal.returns
returns c = masked (c.args.a / 2 ^ c.args.lo) c.mask.result (c.args.hi - c.args.lo + 1) c.mask.ensures
