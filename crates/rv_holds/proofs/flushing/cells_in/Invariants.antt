use Rattle.std.proofs.Common.{◌≡◌, ◌++◌, drop, take, length, None}
use Rattle.std.specs.Prelude.{replicate}
use Rattle.rv_holds.specs.Tokens.{cells_of}
use Rattle.rv_holds.proofs.flushing.cells_in.Given as goal

abbrev pub invariant-loop-stage : goal.invariant-loop-stage
invariant-loop-stage l = record {
  done : take l.stage l.cells ++ cells_of (drop l.stage l.slots) ≡ cells_of l.slots;
  behind : drop l.stage l.cells ≡ drop l.stage (replicate 5 None);
  long : length l.cells ≡ 5;
}
