use Rattle.rv_engine.proofs.Placing.{guess_here}
use Rattle.rv_engine.proofs.filling.guess.Goals as goal

pub returns-clause-slots : goal.returns-clause-slots
returns-clause-slots c =
    guess_here c.args.design.now c.args.future.now c.args.memory.now c.args.slots.now _ c.guess_slot.new.slot c.requires.stages c.guess_slot.ensures.slot
