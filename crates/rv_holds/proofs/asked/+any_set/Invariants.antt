use Rattle.std.proofs.Common.{length}
use Rattle.rv_holds.proofs.asked.+any_set.Given as goal

abbrev pub decreases-any_set : goal.decreases-any_set
decreases-any_set l = length l.flags.now
