use Rattle.std.proofs.Common.{◌≡◌, [], map, drop}
use Rattle.ix_tree.specs.View.{view_section}
use Rattle.ix_typing.specs.Texts.{globals}
use Rattle.ix_check_parts.proofs.states.globals.Given as goal

abbrev pub invariant-loop-section : goal.invariant-loop-section
invariant-loop-section l = globals [] (map view_section l.sections) ≡ globals l.names (map view_section (drop l.section-index l.sections))
