use Rattle.ix_cells.proofs.Forms.{if_ok, lt_adds}
use Rattle.ix_cells.proofs.cells.below.Goals as goal

pub returns : goal.returns
returns c = if_ok c.push.result _ _ (λ r p. lt_adds c.args.net.now c.push.new.net r c.args.a c.args.b c.in_ok-left.left c.in_ok-right.right c.in_ok-left.ensures c.in_ok-right.ensures c.requires p) c.push.ensures
