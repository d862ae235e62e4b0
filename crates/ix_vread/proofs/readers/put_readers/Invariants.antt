use Rattle.std.proofs.Common.{take}
use Rattle.ix_vread.specs.Graphs.{Puts}
use Rattle.ix_vread.proofs.readers.put_readers.Given as goal

abbrev pub invariant-loop-cell : goal.invariant-loop-cell
invariant-loop-cell l = Puts (take l.cell-index l.read) l.reader l.fn.readers l.readers
