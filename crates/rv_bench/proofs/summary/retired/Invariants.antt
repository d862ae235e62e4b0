use Rattle.std.proofs.Common.{◌≡◌, ◌≤◌, take, reverse}
use Rattle.rv_trace.specs.Trace.{retirements}
use Rattle.rv_bench.proofs.summary.retired.Given as goal

abbrev pub invariant-loop-k : goal.invariant-loop-k
invariant-loop-k l = record {
  count : l.count ≡ retirements (reverse (take l.k l.trace.rows));
  few : l.count ≤ l.k;
}
