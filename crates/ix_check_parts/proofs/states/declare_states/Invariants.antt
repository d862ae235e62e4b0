use Rattle.std.proofs.Common.{◌≡◌, map, drop}
use Rattle.ix_tree.specs.View.{view_state}
use Rattle.ix_typing.specs.Texts.{declared_states}
use Rattle.ix_check_parts.proofs.states.declare_states.Given as goal

abbrev pub invariant-loop-state : goal.invariant-loop-state
invariant-loop-state l = declared_states l.fn.names (map view_state l.all) ≡ declared_states l.names (map view_state (drop l.state-index l.all))
