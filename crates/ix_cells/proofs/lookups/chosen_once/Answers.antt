use Rattle.ix_cells.proofs.WireLists.{once_adds}
use Rattle.ix_cells.proofs.lookups.chosen_once.Goals as goal

pub returns-then-is_one_node : goal.returns-then-is_one_node
returns-then-is_one_node c = once_adds c.args.net.now c.args.bit c.args.a c.args.b c.requires.alike (c.is_one_node.ensures c.if-is_one_node.true)
