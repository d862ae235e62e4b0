use Rattle.std.proofs.Common.{◌≡◌, ◌++◌, drop, take, map, length}
use Rattle.rv_holds.specs.Flushing.{freed}
use Rattle.rv_holds.proofs.flushing.free.Given as goal

abbrev pub invariant-loop-stage : goal.invariant-loop-stage
invariant-loop-stage l = record {
  done : take l.stage l.slots ++ map freed (drop l.stage l.fn.slots) ≡ map freed l.fn.slots;
  rest : drop l.stage l.slots ≡ drop l.stage l.fn.slots;
  long : length l.slots ≡ length l.fn.slots;
}
