use Rattle.std.proofs.Common.{length}
use Rattle.rv_barrel.proofs.older.+eldest_undone.Given as goal

abbrev pub decreases-eldest_undone : goal.decreases-eldest_undone
decreases-eldest_undone l = length l.standing.now
