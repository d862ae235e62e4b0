use Rattle.std.proofs.Common.{◌≡◌, ◌++◌, drop}
use Rattle.rv_unit.specs.Numbering.{lasts_of}
use Rattle.rv_unit.proofs.numbering.lasts_of.Given as goal

abbrev pub invariant-loop-plan : goal.invariant-loop-plan
invariant-loop-plan l = l.lasts.items ++ lasts_of (drop l.plan-index l.plans) ≡ lasts_of l.plans
