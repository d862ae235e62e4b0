use Rattle.std.proofs.Common.{length}
use Rattle.ix_vform.proofs.slot.+reached.Given as goal

abbrev pub decreases-reached : goal.decreases-reached
decreases-reached l = length l.slots.now
