use Rattle.std.proofs.Common.{◌≡◌, drop}
use Rattle.ix_tree.specs.TypedView.{typed_items}
use Rattle.ix_extension.specs.Faults.{row_writes_pc}
use Rattle.ix_encode.proofs.program_counter.+statements.Given as goal

abbrev pub invariant-row_writes_pc-loop-stmt : goal.invariant-row_writes_pc-loop-stmt
invariant-row_writes_pc-loop-stmt l = row_writes_pc (typed_items l.all) ≡ row_writes_pc (typed_items (drop l.stmt-index l.all))
