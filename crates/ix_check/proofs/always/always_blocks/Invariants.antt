use Rattle.std.proofs.Common.{◌≡◌, map, drop, length}
use Rattle.ix_tree.specs.View.{view_block}
use Rattle.ix_tree.specs.TypedView.{typed_block}
use Rattle.ix_typing.specs.Refusals.{each}
use Rattle.ix_typing.specs.Texts.{judged_block}
use Rattle.ix_typing.proofs.Listed.{behind}
use Rattle.ix_check.proofs.always.always_blocks.Given as goal

-- what is judged of all is what is judged of the rest, behind what was made
abbrev pub invariant-loop-text : goal.invariant-loop-text
invariant-loop-text l =
    record {
      told : each (judged_block l.fn.state.names) (map view_block l.fn.all) l.fn.seen ≡ behind (map typed_block l.out.items) (each (judged_block l.fn.state.names) (map view_block (drop (length l.yielded) l.fn.all)) l.seen);
      kept : l.state.names ≡ l.fn.state.names;
    }
