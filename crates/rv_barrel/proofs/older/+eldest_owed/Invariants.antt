use Rattle.std.proofs.Common.{length}
use Rattle.rv_barrel.proofs.older.+eldest_owed.Given as goal

abbrev pub decreases-eldest_owed : goal.decreases-eldest_owed
decreases-eldest_owed l = length l.owed.now
