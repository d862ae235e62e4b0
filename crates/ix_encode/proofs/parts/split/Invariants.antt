use Rattle.std.proofs.Common.{◌≡◌, map}
use Rattle.ix_tree.specs.TypedView.{typed_state, typed_instr, typed_block, typed_section}
use Rattle.ix_extension.specs.Extensions.{all_states, all_instrs, all_blocks}
use Rattle.ix_encode.proofs.parts.split.Given as goal

abbrev pub invariant-loop-section : goal.invariant-loop-section
invariant-loop-section l =
    record {
      states : map typed_state l.parts.states.items ≡ all_states (map typed_section l.yielded);
      instructions : map typed_instr l.parts.instructions.items ≡ all_instrs (map typed_section l.yielded);
      blocks : map typed_block l.parts.blocks.items ≡ all_blocks (map typed_section l.yielded);
    }
