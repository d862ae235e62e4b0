use Rattle.std.proofs.Common.{◌≡◌, map, drop}
use Rattle.ix_extension.specs.Extensions.{view_instruction}
use Rattle.ix_extension.specs.Faults.{base_fault}
use Rattle.ix_encode.proofs.overlap.check_base.Given as goal

abbrev pub invariant-loop-instruction : goal.invariant-loop-instruction
invariant-loop-instruction l = base_fault (map view_instruction l.all) ≡ base_fault (map view_instruction (drop l.instruction-index l.all))
