use Rattle.std.proofs.Common.{◌≡◌, map}
use Rattle.ix_tree.specs.TypedView.{typed_instr}
use Rattle.ix_extension.specs.Extensions.{view_instruction, instruction_of}
use Rattle.ix_encode.proofs.instruction.instructions.Given as goal

abbrev pub invariant-loop-text : goal.invariant-loop-text
invariant-loop-text l = map view_instruction l.out ≡ map instruction_of (map typed_instr l.yielded)
