use Rattle.std.proofs.Common.{◌≡◌, ◌*◌, ◌≤◌, take}
use Rattle.std.specs.Prelude.{sum}
use Rattle.ix_solve.proofs.cost.total.Given as goal

abbrev pub invariant-loop-time : goal.invariant-loop-time
invariant-loop-time l = record {
  sum : l.total ≡ sum (take l.time-index l.times);
  low : l.total ≤ 255 * l.time-index;
}
