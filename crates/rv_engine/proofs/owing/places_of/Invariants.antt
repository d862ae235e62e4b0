use Rattle.std.proofs.Common.{◌≡◌, ◌+◌, drop}
use Rattle.rv_unit.specs.Numbering.{lasts_of}
use Rattle.rv_unit.specs.Timed.{room}
use Rattle.rv_engine.proofs.owing.places_of.Given as goal

abbrev pub invariant-loop-plan : goal.invariant-loop-plan
invariant-loop-plan l = l.places + room l.stages (lasts_of (drop l.plan-index l.plans)) ≡ room l.stages (lasts_of l.plans)
