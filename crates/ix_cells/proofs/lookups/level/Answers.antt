use Rattle.ix_cells.proofs.Forms.{if_ok}
use Rattle.ix_cells.proofs.WireLists.{levels_from}
use Rattle.ix_cells.proofs.lookups.level.Goals as goal

pub returns : goal.returns
returns c = if_ok c.halved.result _ _ (λ rs h. levels_from c.args.net.now c.bits.new.net c.halved.new.net c.args.wires.now c.args.index c.in_ok-bit.bit c.args.place rs.items c.in_ok-bit.ensures h) c.halved.ensures
