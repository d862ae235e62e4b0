use Rattle.std.proofs.Common.{length}
use Rattle.rv_barrel.proofs.owing.+oldest_in.Given as goal

abbrev pub decreases-oldest_in : goal.decreases-oldest_in
decreases-oldest_in l = length l.entries.now
