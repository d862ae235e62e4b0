use Rattle.ix_extension.specs.Extensions.{view_extension}
use Rattle.rv_engine.proofs.Placing.{placed_mem}
use Rattle.rv_engine.proofs.trying.load.Goals as goal

pub returns-clause-slots : goal.returns-clause-slots
returns-clause-slots c =
    placed_mem (view_extension c.args.design.now.extension) c.args.design.now.sheet.shape c.args.memory.now c.args.slots.now c.from-stage.result c.index-slots-stage.result c.load_slot.new.slot
    c.from-stage.ensures c.requires.inside c.index-slots-stage.is c.load_slot.ensures.slot
