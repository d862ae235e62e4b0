use Rattle.std.proofs.Common.{length}
use Rattle.rv_holds.proofs.flushing.+remains.Given as goal

abbrev pub decreases-remains : goal.decreases-remains
decreases-remains l = length l.slots.now
