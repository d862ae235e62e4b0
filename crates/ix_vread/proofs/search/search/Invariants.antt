use Rattle.std.proofs.Common.{◌+◌, ◌*◌, vec_len}
use Rattle.ix_vread.specs.Searches.{new_count}
use Rattle.ix_vread.proofs.Looking.{IsSearching}
use Rattle.ix_vread.proofs.search.search.Given as goal

abbrev pub invariant-loop-cell : goal.invariant-loop-cell
invariant-loop-cell l = IsSearching l.readers l.root l.fn.marks l.marks l.left.items

abbrev pub decreases-loop-cell : goal.decreases-loop-cell
decreases-loop-cell l = 2 * new_count l.marks + vec_len l.left
