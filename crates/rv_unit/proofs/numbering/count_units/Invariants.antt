use Rattle.std.proofs.Common.{◌≡◌, ◌+◌, length, drop}
use Rattle.rv_unit.specs.Numbering.{lasts_of}
use Rattle.rv_unit.proofs.numbering.count_units.Given as goal

abbrev pub invariant-loop-plan : goal.invariant-loop-plan
invariant-loop-plan l = l.count + length (lasts_of (drop l.plan-index l.plans)) ≡ length (lasts_of l.plans)
