use Rattle.std.proofs.Common.{◌≡◌, ◌+◌, drop}
use Rattle.rv_unit.specs.Timed.{room}
use Rattle.rv_unit.proofs.units.places_of.Given as goal

abbrev pub invariant-loop-last : goal.invariant-loop-last
invariant-loop-last l = l.places + room l.stages (drop l.last-index l.lasts) ≡ room l.stages l.lasts
