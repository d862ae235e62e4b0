use Rattle.ix_solve.specs.Forests.{AreEntries}
use Rattle.ix_solve.proofs.forest.begin.Given as goal

abbrev pub invariant-nodes : goal.invariant-nodes
invariant-nodes l = AreEntries l.node l.log.items l.entries.items
