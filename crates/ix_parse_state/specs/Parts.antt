-- The parts of the code as those of the grammar.
use Rattle.ix_tree.specs.Trees.{Part}
use Rattle.ix_tree.specs.View.{view}
use Rattle.ix_parse_state.specs.declared.part as P

abbrev pub part_of : P.Part.Part → Part
part_of p = record { from = p.from; to = p.to; tree = view p.tree; chain = p.chain; count = p.count }
