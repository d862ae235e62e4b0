use Rattle.std.proofs.Common.{◌≡◌, map, drop, length}
use Rattle.ix_tree.specs.View.{view_section}
use Rattle.ix_tree.specs.TypedView.{typed_section}
use Rattle.ix_typing.specs.Refusals.{each}
use Rattle.ix_typing.specs.Texts.{global_state, judged_section, no_front}
use Rattle.ix_typing.proofs.Listed.{behind}
use Rattle.ix_check.proofs.text.sections.Given as goal

-- what is judged of all is what is judged of the rest, behind what was made
abbrev pub invariant-loop-text : goal.invariant-loop-text
invariant-loop-text l =
    record {
      told : each (judged_section (global_state l.fn.names)) (map view_section l.fn.all) no_front
          ≡ behind (map typed_section l.out.items) (each (judged_section (global_state l.fn.names)) (map view_section (drop (length l.yielded) l.fn.all)) l.front);
      kept : l.state.names ≡ l.fn.names;
    }
