use Rattle.std.proofs.Common.{◌≡◌, ◌-◌, ◌<◌, drop, take, length, get_or}
use Rattle.std.specs.Prelude.{None}
use Rattle.rv_barrel.specs.Moving.{going, advanced}
use Rattle.rv_barrel.proofs.moving.advance.Given as goal

abbrev pub invariant-loop-stage : goal.invariant-loop-stage
invariant-loop-stage l = record {
  done : drop l.stage l.slots ≡ advanced l.gone l.stage (going l.gone (l.stage - 1) (get_or l.fn.slots (l.stage - 1) None)) (drop l.stage l.fn.slots);
  rest : take l.stage l.slots ≡ take l.stage l.fn.slots;
  least : 0 < l.stage;
  long : length l.slots ≡ length l.fn.slots;
}
