use Rattle.ix_cells.proofs.Forms.{if_ok, mul_adds}
use Rattle.ix_cells.proofs.cells.product.Goals as goal

pub returns : goal.returns
returns c = if_ok c.push.result _ _ (λ r p. mul_adds c.args.net.now c.push.new.net r c.args.a c.args.b c.in_ok-left.left c.in_ok-right.right c.in_ok-left.ensures c.in_ok-right.ensures c.requires p) c.push.ensures
