use Rattle.std.proofs.Common.{◌≡◌, ◌*◌, length}
use Rattle.ix_problem.specs.Reaches.{AreWithin, AreReaches}
use Rattle.ix_problem.proofs.reach.reach_all.Given as goal

abbrev pub invariant-ops : goal.invariant-ops
invariant-ops l = (length l.reaches.items ≡ l.at) × AreReaches l.p l.source l.reaches.items × AreWithin (l.at * 4294967295) l.reaches.items
