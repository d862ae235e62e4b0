use Rattle.std.proofs.Common.{◌≡◌, ◌≤◌, ◌+◌, ◌*◌, ◌++◌, drop, length}
use Rattle.rv_trace.specs.TraceText.{custom_writes_text}
use Rattle.rv_trace.proofs.row_text.put_custom_writes.Given as goal

abbrev pub invariant-loop-k : goal.invariant-loop-k
invariant-loop-k l = record {
  text : l.out ++ custom_writes_text l.k (drop l.k l.writes) ≡ l.fn.out ++ custom_writes_text 0 l.writes;
  few : length l.out ≤ length l.fn.out + 38 * l.k;
}
