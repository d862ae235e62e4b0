use Rattle.std.proofs.Common.{◌≡◌, ◌+◌, ◌≤◌, drop, length}
use Rattle.rv_trace.specs.RowParts.{in_five}
use Rattle.rv_barrel.specs.Showing.{serials_of}
use Rattle.rv_barrel.proofs.showing.serials_in.Given as goal

abbrev pub invariant-loop-stage : goal.invariant-loop-stage
invariant-loop-stage l = record {
  done : l.serials ≡ in_five (serials_of (drop l.stage l.slots));
  count : l.count ≡ length (serials_of (drop l.stage l.slots));
  few : l.count + l.stage ≤ length l.slots;
}
