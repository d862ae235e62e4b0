use Rattle.std.proofs.Common.{[]}
use Rattle.ix_net.specs.declared.netlist.Form.TheVariants.{Hex}
use Rattle.ix_cells.specs.Growth.{IsPushed, Adds}
use Rattle.ix_cells.proofs.Forms.{if_ok, hex_adds}
use Rattle.ix_cells.proofs.cells.constant.Goals as goal

pub returns : goal.returns
returns c =
    if_ok c.push.result (λ r. IsPushed c.args.net.now c.push.new.net r c.args.bits.width (Hex c.args.bits))
    (λ r. Adds [] c.args.net.now c.push.new.net r c.args.bits.width (λ see. c.args.bits.raw))
    (λ r p. hex_adds c.args.net.now c.push.new.net r c.args.bits p) c.push.ensures
