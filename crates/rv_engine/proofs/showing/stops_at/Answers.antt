use Rattle.std.proofs.Common.{◌∙◌, ap}
use Rattle.rv_holds.specs.Tokens.{Slots}
use Rattle.rv_holds.specs.Holds.{stops_now}
use Rattle.rv_engine.proofs.Seats.{behind_stage}
use Rattle.rv_engine.proofs.showing.stops_at.Goals as goal

pub returns : goal.returns
returns c = c.does_stop.ensures ∙ ap (λ (l : Slots). stops_now c.args.shape c.args.stage c.args.token.now l) (behind_stage c.args.slots.now c.args.stage)
