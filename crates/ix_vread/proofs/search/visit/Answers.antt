use Rattle.ix_vread.proofs.Looking.{visit_new}
use Rattle.ix_vread.proofs.search.visit.Goals as goal

pub returns-in_ok-push : goal.returns-in_ok-push
returns-in_ok-push c = visit_new c.args.cell c.args.marks.now c.args.left.now.items c.push.new.self.items (c.is_new.ensures.0 c.if-is_new.true) c.in_ok-push.ensures.items
