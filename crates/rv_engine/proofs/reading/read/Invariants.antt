use Rattle.std.proofs.Common.{◌≡◌, ◌++◌, drop, take, length}
use Rattle.rv_engine.specs.Kept.{AreFitting}
use Rattle.rv_engine.specs.Rows.{reading}
use Rattle.rv_engine.proofs.reading.read.Given as goal

abbrev pub invariant-loop-stage : goal.invariant-loop-stage
invariant-loop-stage l = record {
  done : take l.stage l.slots ++ reading l.fn.design.sheet.shape l.file l.wait l.interrupted l.owing l.stage (drop l.stage l.fn.slots) ≡ reading l.fn.design.sheet.shape l.file l.wait l.interrupted l.owing 0 l.fn.slots;
  rest : drop l.stage l.slots ≡ drop l.stage l.fn.slots;
  fitting : AreFitting l.fn.design (drop l.stage l.fn.slots);
  long : length l.slots ≡ length l.fn.slots;
}
