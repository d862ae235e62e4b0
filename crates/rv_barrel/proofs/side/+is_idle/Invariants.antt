use Rattle.std.proofs.Common.{length}
use Rattle.rv_barrel.proofs.side.+is_idle.Given as goal

abbrev pub decreases-is_idle : goal.decreases-is_idle
decreases-is_idle l = length l.slots.now
