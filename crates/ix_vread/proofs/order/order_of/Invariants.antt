use Rattle.std.proofs.Common.{ℕ, ◌<◌}
use Rattle.ix_vread.specs.Orders.{IsMarked, IsResting}
use Rattle.ix_vread.proofs.order.order_of.Given as goal

abbrev pub invariant-roots : goal.invariant-roots
invariant-roots l = record {
  resting : IsResting l.graph l.seen l.order.items;
  marked : (k : ℕ) → k < l.root → IsMarked l.seen k;
}
