use Rattle.std.proofs.Common.{◌≡◌, ◌++◌, ◌-◌, take, length, None}
use Rattle.std.specs.Prelude.{replicate}
use Rattle.rv_barrel.proofs.moving.free.Given as goal

abbrev pub invariant-loop-stage : goal.invariant-loop-stage
invariant-loop-stage l = record {
  done : take l.stage l.slots ++ replicate (length l.fn.slots - l.stage) None ≡ replicate (length l.fn.slots) None;
  long : length l.slots ≡ length l.fn.slots;
}
