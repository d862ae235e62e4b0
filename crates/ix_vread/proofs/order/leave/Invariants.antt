use Rattle.std.proofs.Common.{◌+◌, ◌*◌, vec_len}
use Rattle.ix_vread.proofs.Leaving.{IsWalking}
use Rattle.ix_vread.proofs.Marking.{unmarked}
use Rattle.ix_vread.proofs.order.leave.Given as goal

abbrev pub invariant-loop-cell : goal.invariant-loop-cell
invariant-loop-cell l = IsWalking l.graph l.fn.marks l.marks l.path.items l.order.items l.root

abbrev pub decreases-loop-cell : goal.decreases-loop-cell
decreases-loop-cell l = 2 * unmarked l.marks + vec_len l.path
