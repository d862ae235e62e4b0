use Rattle.std.proofs.Common.{◌+◌}
use Rattle.ix_neteval.proofs.Masks.{masked_wide}
use Rattle.ix_neteval.proofs.arithmetic.add.Goals as goal

pub returns : goal.returns
returns c = masked_wide (c.args.a + c.args.b) c.mask.result c.args.width c.requires.most c.mask.ensures
