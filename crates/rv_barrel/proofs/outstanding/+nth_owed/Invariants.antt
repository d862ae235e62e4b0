use Rattle.std.proofs.Common.{length}
use Rattle.rv_barrel.proofs.outstanding.+nth_owed.Given as goal

abbrev pub decreases-nth_owed : goal.decreases-nth_owed
decreases-nth_owed l = length l.owed.now
