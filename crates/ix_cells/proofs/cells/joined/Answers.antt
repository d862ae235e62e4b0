use Rattle.std.proofs.Common.{refl, ◌+◌, ◌*◌, ◌^◌, [], ◌∷◌}
use Rattle.ix_net.specs.declared.netlist.Form.TheVariants.{Join}
use Rattle.ix_cells.specs.Growth.{IsPushed, Adds}
use Rattle.ix_cells.proofs.Forms.{if_ok, join_adds}
use Rattle.ix_cells.proofs.cells.joined.Goals as goal

pub returns : goal.returns
returns c =
    if_ok c.push.result (λ r. IsPushed c.args.net.now c.push.new.net r (c.args.a.width + c.args.b.width) (Join c.in_ok-left.left c.in_ok-right.right))
    (λ r. Adds (c.args.a ∷ c.args.b ∷ []) c.args.net.now c.push.new.net r (c.args.a.width + c.args.b.width) (λ see. see c.args.a.signal * 2 ^ c.args.b.width + see c.args.b.signal))
    (λ r p. join_adds c.args.net.now c.push.new.net r c.args.a c.args.b c.in_ok-left.left c.in_ok-right.right c.in_ok-left.ensures c.in_ok-right.ensures (c.args.a.width + c.args.b.width) refl c.requires p) c.push.ensures
