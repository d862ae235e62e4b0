use Rattle.std.proofs.Common.{◌≡◌, ◌+◌, ◌/◌, take}
use Rattle.std.specs.Prelude.{sum_by}
use Rattle.ix_graph.specs.declared.graph.Op.{Op}
use Rattle.ix_design.specs.Room.{entries_at}
use Rattle.ix_design.proofs.room.has_room.Given as goal

abbrev pub invariant-loop-op : goal.invariant-loop-op
invariant-loop-op l = l.left + sum_by (λ (op : Op). entries_at l.graph.tables op.kind) (take l.op-index l.graph.ops) ≡ l.room / 2
