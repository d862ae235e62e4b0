use Rattle.std.proofs.Common.{length}
use Rattle.rv_barrel.proofs.owing.+show_for.Given as goal

abbrev pub decreases-show_for : goal.decreases-show_for
decreases-show_for l = length l.owed.now
