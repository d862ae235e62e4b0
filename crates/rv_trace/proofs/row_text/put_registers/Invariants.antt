use Rattle.std.proofs.Common.{◌≡◌, ◌≤◌, ◌+◌, ◌*◌, ◌++◌, drop, length}
use Rattle.rv_trace.specs.TraceText.{registers_text}
use Rattle.rv_trace.proofs.row_text.put_registers.Given as goal

abbrev pub invariant-loop-n : goal.invariant-loop-n
invariant-loop-n l = record {
  text : l.out ++ registers_text l.n (drop l.n l.x) ≡ l.fn.out ++ registers_text 0 l.x;
  few : length l.out ≤ length l.fn.out + 14 * l.n;
}
