use Rattle.std.proofs.Common.{◌≡◌, ◌+◌, ◌≤◌, drop, length}
use Rattle.rv_trace.specs.RowParts.{in_five}
use Rattle.rv_holds.specs.Flushing.{listed}
use Rattle.rv_holds.proofs.flushing.serials_in.Given as goal

abbrev pub invariant-loop-stage : goal.invariant-loop-stage
invariant-loop-stage l = record {
  done : l.serials ≡ in_five (listed (drop l.stage l.slots));
  count : l.count ≡ length (listed (drop l.stage l.slots));
  few : l.count + l.stage ≤ length l.slots;
}
