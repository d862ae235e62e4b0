use Rattle.std.proofs.Common.{◌≡◌, map, drop}
use Rattle.ix_tree.specs.View.{view}
use Rattle.ix_tree.specs.TypedView.{typed_view}
use Rattle.ix_typing.specs.Refusals.{each}
use Rattle.ix_typing.specs.Texts.{constant}
use Rattle.ix_typing.proofs.Listed.{behind}
use Rattle.ix_check_parts.proofs.states.entries.Given as goal

abbrev pub invariant-loop-entry : goal.invariant-loop-entry
invariant-loop-entry l =
    each (constant l.ty) (map view l.all) l.state ≡ behind (map typed_view l.out.items) (each (constant l.ty) (map view (drop l.entry-index l.all)) l.state)
