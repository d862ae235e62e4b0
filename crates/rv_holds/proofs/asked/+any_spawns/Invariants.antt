use Rattle.std.proofs.Common.{length}
use Rattle.rv_holds.proofs.asked.+any_spawns.Given as goal

abbrev pub decreases-any_spawns : goal.decreases-any_spawns
decreases-any_spawns l = length l.older.now
