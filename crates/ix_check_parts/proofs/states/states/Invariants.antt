use Rattle.std.proofs.Common.{◌≡◌, map, drop, length}
use Rattle.ix_tree.specs.View.{view_state}
use Rattle.ix_tree.specs.TypedView.{typed_state}
use Rattle.ix_typing.specs.Refusals.{each}
use Rattle.ix_typing.specs.Texts.{judged_state}
use Rattle.ix_typing.proofs.Listed.{behind}
use Rattle.ix_check_parts.proofs.states.states.Given as goal

abbrev pub invariant-loop-text : goal.invariant-loop-text
invariant-loop-text l =
    record {
      number : l.k ≡ length l.yielded;
      judged : each (judged_state l.state) (map view_state l.fn.all) 0 ≡ behind (map typed_state l.out.items) (each (judged_state l.state) (map view_state (drop (length l.yielded) l.fn.all)) l.k);
    }
