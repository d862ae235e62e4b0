use Rattle.std.proofs.Common.{◌≡◌, ◌≢◌, ℕ, ◌<◌, length}
use Rattle.ix_net.specs.declared.ordering.Mark.TheVariants.{New}
use Rattle.ix_net.specs.Order.{IsResting, mark_at}
use Rattle.ix_net.proofs.ordering.order_of.Given as goal

abbrev pub invariant-loop-root : goal.invariant-loop-root
invariant-loop-root l = record {
  size : length l.marks.items ≡ length l.gates;
  resting : IsResting l.first l.gates l.marks.items l.order.items;
  seen : (k : ℕ) → k < l.root → mark_at l.marks.items k ≢ New;
}
