use Rattle.std.proofs.Common.{◌≡◌, ◌≤◌, ◌+◌, ◌*◌, ◌++◌, drop, length, codes}
use Rattle.std.specs.List.{flat_map}
use Rattle.rv_trace.specs.TraceText.{mark_text}
use Rattle.rv_trace.proofs.row_text.put_flushed.Given as goal

abbrev pub invariant-loop-serial : goal.invariant-loop-serial
invariant-loop-serial l = record {
  text : l.out ++ flat_map (mark_text (codes " f")) (drop l.serial-index l.flushed) ≡ l.fn.out ++ flat_map (mark_text (codes " f")) l.flushed;
  few : length l.out ≤ length l.fn.out + 12 * l.serial-index;
}
