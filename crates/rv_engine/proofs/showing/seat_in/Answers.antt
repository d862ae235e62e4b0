use Rattle.rv_engine.proofs.Seats.{token_shown, free_shown}
use Rattle.rv_engine.proofs.showing.seat_in.Goals as goal

pub returns-in-None : goal.returns-in-None
returns-in-None c = free_shown c.args.shape c.args.file.now c.args.flushed c.args.slots.now c.args.stage c.index-slots-stage.result c.requires.inside c.index-slots-stage.is c.in-None.is

pub returns-in-Some : goal.returns-in-Some
returns-in-Some c =
    token_shown c.args.shape c.args.file.now c.args.flushed c.args.slots.now c.args.stage c.index-slots-stage.result c.in-Some.token c.seat_of.result c.requires.inside c.index-slots-stage.is c.in-Some.is c.seat_of.ensures
