use Rattle.std.proofs.Common.{◌∙◌, sym}
use Rattle.rv_barrel.specs.Cells.{fetched_of}
use Rattle.std.proofs.Common.{refl}
use Rattle.rv_barrel.specs.Older.{kept_of}
use Rattle.rv_barrel.specs.Turning.{led_in}
use Rattle.rv_barrel.proofs.Occurring.{event_is, event_turned, event_led, event_stopped, stop_here}
use Rattle.rv_barrel.proofs.events.event_of.Goals as goal

pub returns-in-Some : goal.returns-in-Some
returns-in-Some c k q all d core at asks tried asked owed =
    sym (event_turned c.args.one.now.at (stop_here k c.args.stage d) (led_in k c.args.near c.args.stage d) c.in-Some.is)
    ∙ event_is k all (kept_of c.args.out all) c.args.near c.args.stage c.args.one.now.at d (fetched_of q c.args.older.now) c.turn_of.result (stop_here k c.args.stage d) (led_in k c.args.near c.args.stage d) at (c.turn_of.ensures k q all d core asks tried asked owed) refl refl

pub returns-in-None-stops_in : goal.returns-in-None-stops_in
returns-in-None-stops_in c k q all d core at asks tried asked owed =
    sym (event_led c.args.one.now.at c.leads_in.result c.in-None.is c.in-None-stops_in.is)
    ∙ event_is k all (kept_of c.args.out all) c.args.near c.args.stage c.args.one.now.at d (fetched_of q c.args.older.now) c.turn_of.result c.stops_in.result c.leads_in.result at (c.turn_of.ensures k q all d core asks tried asked owed) (c.stops_in.ensures k d core tried) (c.leads_in.ensures k d core asks tried)

pub returns-in_default : goal.returns-in_default
returns-in_default c k q all d core at asks tried asked owed =
    sym (event_stopped c.args.one.now.at c.stops_in.result (led_in k c.args.near c.args.stage d) c.in-None.is c.in_default.not-None)
    ∙ event_is k all (kept_of c.args.out all) c.args.near c.args.stage c.args.one.now.at d (fetched_of q c.args.older.now) c.turn_of.result c.stops_in.result (led_in k c.args.near c.args.stage d) at (c.turn_of.ensures k q all d core asks tried asked owed) (c.stops_in.ensures k d core tried) refl
