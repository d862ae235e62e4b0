use Rattle.ix_cells.proofs.Forms.{if_ok, not_adds}
use Rattle.ix_cells.proofs.cells.turned.Goals as goal

pub returns : goal.returns
returns c = if_ok c.push.result _ _ (λ r p. not_adds c.args.net.now c.push.new.net r c.args.a c.in_ok-source.source c.in_ok-source.ensures p) c.push.ensures
