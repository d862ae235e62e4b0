use Rattle.std.proofs.Common.{◌≡◌, ◌≤◌, take, reverse}
use Rattle.rv_bench.specs.Summary.{writings}
use Rattle.rv_bench.proofs.summary.written.Given as goal

abbrev pub invariant-loop-k : goal.invariant-loop-k
invariant-loop-k l = record {
  count : l.count ≡ writings (reverse (take l.k l.trace.rows));
  few : l.count ≤ l.k;
}
