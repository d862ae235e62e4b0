use Rattle.std.proofs.Common.{◌≡◌, ◌≤◌, ◌-◌, [], None, drop, length, replicate}
use Rattle.rv_trace.specs.RowParts.{given}
use Rattle.rv_reader.specs.Rows.{flushed_from}
use Rattle.rv_reader.proofs.mark.flushed.Given as goal

abbrev pub invariant-loop-k : goal.invariant-loop-k
invariant-loop-k l = record {
  rest : flushed_from l.stages 0 [] l.text ≡ flushed_from (l.stages - l.k) l.low (given l.found) l.left;
  empty : drop l.k l.found ≡ replicate (5 - l.k) None;
  five : length l.found ≡ 5;
  low : l.low ≤ 4294967296;
}
