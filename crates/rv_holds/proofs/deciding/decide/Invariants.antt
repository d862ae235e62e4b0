use Rattle.std.proofs.Common.{◌≡◌, drop, take, length}
use Rattle.rv_holds.specs.Holds.{decided}
use Rattle.rv_holds.proofs.deciding.decide.Given as goal

abbrev pub invariant-loop-stage : goal.invariant-loop-stage
invariant-loop-stage l = record {
  done : drop l.stage l.slots ≡ decided l.fn.shape l.stage (drop l.stage l.fn.slots);
  rest : take l.stage l.slots ≡ take l.stage l.fn.slots;
  long : length l.slots ≡ length l.fn.slots;
}
