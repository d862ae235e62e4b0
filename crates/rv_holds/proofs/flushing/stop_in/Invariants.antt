use Rattle.std.proofs.Common.{◌≡◌, drop}
use Rattle.rv_holds.specs.Flushing.{slot_stop}
use Rattle.rv_holds.proofs.flushing.stop_in.Given as goal

abbrev pub invariant-loop-stage : goal.invariant-loop-stage
invariant-loop-stage l = slot_stop l.fn.shape l.stage (drop l.stage l.slots) ≡ slot_stop l.fn.shape 0 l.slots
