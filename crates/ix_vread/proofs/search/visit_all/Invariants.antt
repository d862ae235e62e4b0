use Rattle.std.proofs.Common.{take}
use Rattle.ix_vread.specs.Searches.{Visits}
use Rattle.ix_vread.proofs.search.visit_all.Given as goal

abbrev pub invariant-loop-cell : goal.invariant-loop-cell
invariant-loop-cell l = Visits (take l.cell-index l.cells) l.fn.marks l.fn.left.items l.marks l.left.items
