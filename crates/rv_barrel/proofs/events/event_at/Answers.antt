use Rattle.std.proofs.Common.{◌∙◌, sym, ap}
use Rattle.std.specs.Prelude.{option_map}
use Rattle.rv_harts.specs.Events.{event_here}
use Rattle.rv_barrel.proofs.events.event_at.Goals as goal

pub returns-in-None : goal.returns-in-None
returns-in-None c k q all d core at asks tried asked owed =
    sym (ap (option_map (event_here c.args.stage)) (sym (c.event_of.ensures k q all d core at asks tried asked owed) ∙ c.in-None.is))

pub returns-in-Some : goal.returns-in-Some
returns-in-Some c k q all d core at asks tried asked owed =
    sym (ap (option_map (event_here c.args.stage)) (sym (c.event_of.ensures k q all d core at asks tried asked owed) ∙ c.in-Some.is))
