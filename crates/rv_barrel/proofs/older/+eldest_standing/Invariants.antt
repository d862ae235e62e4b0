use Rattle.std.proofs.Common.{length}
use Rattle.rv_barrel.proofs.older.+eldest_standing.Given as goal

abbrev pub decreases-eldest_standing : goal.decreases-eldest_standing
decreases-eldest_standing l = length l.standing.now
