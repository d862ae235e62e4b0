use Rattle.std.proofs.Common.{length}
use Rattle.rv_holds.proofs.deciding.+oldest_staying.Given as goal

abbrev pub decreases-oldest_staying : goal.decreases-oldest_staying
decreases-oldest_staying l = length l.older.now
