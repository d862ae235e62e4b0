use Rattle.std.proofs.Common.{◌≡◌, drop}
use Rattle.rv_holds.specs.Flushing.{settled}
use Rattle.rv_holds.proofs.flushing.settled_in.Given as goal

abbrev pub invariant-loop-stage : goal.invariant-loop-stage
invariant-loop-stage l = settled l.fn.shape l.stage (drop l.stage l.slots) ≡ settled l.fn.shape 0 l.slots
