use Rattle.std.proofs.Common.{length}
use Rattle.rv_barrel.proofs.outstanding.+nth_custom.Given as goal

abbrev pub decreases-nth_custom : goal.decreases-nth_custom
decreases-nth_custom l = length l.flags.now
