use Rattle.std.proofs.Common.{◌≡◌, map, drop}
use Rattle.ix_tree.specs.TypedView.{typed_whole}
use Rattle.ix_extension.specs.Faults.{any_writes_pc}
use Rattle.ix_encode.proofs.program_counter.any_writes_pc.Given as goal

abbrev pub invariant-loop-stmt : goal.invariant-loop-stmt
invariant-loop-stmt l = any_writes_pc (map typed_whole l.all) ≡ any_writes_pc (map typed_whole (drop l.stmt-index l.all))
