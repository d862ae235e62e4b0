use Rattle.std.proofs.Common.{◌≡◌, drop}
use Rattle.ix_tree.specs.Rows.{view_items}
use Rattle.ix_tree.specs.Unrolling.{touches_row}
use Rattle.ix_unroll.proofs.assigned.+touching.Given as goal

abbrev pub invariant-touches_row-loop-stmt : goal.invariant-touches_row-loop-stmt
invariant-touches_row-loop-stmt l = touches_row l.name (view_items l.all) ≡ touches_row l.name (view_items (drop l.stmt-index l.all))
