use Rattle.ix_tree.proofs.Names.{name_test}
use Rattle.ix_unroll.proofs.assigned.is_variable.Goals as goal

pub returns-in-Name : goal.returns-in-Name
returns-in-Name c = rw c.in-Name.is (name_test c.eq.result c.as_str.result.now c.in-Name.other c.args.name.now c.eq.ensures c.as_str.ensures.text)
