use Rattle.std.proofs.Common.{◌≡◌, map, drop, length}
use Rattle.ix_tree.specs.View.{view_instr}
use Rattle.ix_tree.specs.TypedView.{typed_instr}
use Rattle.ix_typing.specs.Refusals.{each}
use Rattle.ix_typing.specs.Texts.{judged_instr}
use Rattle.ix_typing.proofs.Listed.{behind}
use Rattle.ix_check.proofs.instruction.instructions.Given as goal

-- what is judged of all is what is judged of the rest, behind what was made
abbrev pub invariant-loop-text : goal.invariant-loop-text
invariant-loop-text l =
    record {
      told : each (judged_instr l.fn.state.names) (map view_instr l.fn.all) l.fn.seen ≡ behind (map typed_instr l.out.items) (each (judged_instr l.fn.state.names) (map view_instr (drop (length l.yielded) l.fn.all)) l.seen);
      kept : l.state.names ≡ l.fn.state.names;
    }
