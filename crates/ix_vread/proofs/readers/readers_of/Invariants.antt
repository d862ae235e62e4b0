use Rattle.ix_vread.specs.Graphs.{AreReadersIn}
use Rattle.ix_vread.proofs.readers.readers_of.Given as goal

abbrev pub invariant-readers : goal.invariant-readers
invariant-readers l = AreReadersIn l.graph l.reader l.lists
