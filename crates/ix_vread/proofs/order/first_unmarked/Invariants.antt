use Rattle.std.proofs.Common.{ℕ, ◌<◌, length, take, Contains}
use Rattle.ix_vread.specs.Orders.{IsMarked}
use Rattle.ix_vread.proofs.order.first_unmarked.Given as goal

abbrev pub invariant-loop-cell : goal.invariant-loop-cell
invariant-loop-cell l = (k : ℕ) → k < length l.marks → Contains (take l.cell-index l.cells) k → IsMarked l.marks k
