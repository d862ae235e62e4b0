use Rattle.std.proofs.Common.{length}
use Rattle.rv_barrel.proofs.events.+event_from.Given as goal

abbrev pub decreases-event_from : goal.decreases-event_from
decreases-event_from l = length l.slots.now
