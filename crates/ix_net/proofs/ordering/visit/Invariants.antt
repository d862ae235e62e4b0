use Rattle.std.proofs.Common.{◌+◌, ◌*◌, vec_len}
use Rattle.ix_net.proofs.OrderLemmas.{IsSearching, new_count}
use Rattle.ix_net.proofs.ordering.visit.Given as goal

abbrev pub invariant-loop-cell : goal.invariant-loop-cell
invariant-loop-cell l = IsSearching l.first l.gates l.fn.marks l.marks l.order.items l.path.items l.root

abbrev pub decreases-loop-cell : goal.decreases-loop-cell
decreases-loop-cell l = 2 * new_count l.marks + vec_len l.path
