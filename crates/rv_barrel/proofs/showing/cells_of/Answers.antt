use Rattle.std.proofs.Common.{arith}
use Rattle.rv_barrel.proofs.Row.{more_cells}
use Rattle.rv_barrel.proofs.showing.cells_of.Goals as goal

pub loop-stage-preserved : goal.loop-stage-preserved
loop-stage-preserved c =
    more_cells c.args.hart c.args.event.now c.args.slots.now c.loop-stage.stage c.index-slots-stage.result c.turn_at.result c.loop-stage.all c.cell_of.result c.loop-stage-test.true (omega (arith, c.requires, c.loop-stage-test.true))
    c.loop-stage.invariant c.index-slots-stage.is c.turn_at.ensures c.cell_of.ensures
