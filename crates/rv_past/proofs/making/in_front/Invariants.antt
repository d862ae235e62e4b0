use Rattle.std.proofs.Common.{◌≡◌, ◌≤◌, take, length}
use Rattle.rv_trace.specs.RowParts.{given, in_five}
use Rattle.rv_past.proofs.making.in_front.Given as goal

abbrev pub invariant-loop-one : goal.invariant-loop-one
invariant-loop-one l = record {
  done : l.all ≡ in_five (given (take l.one-index l.flushed));
  count : l.count ≡ length (given (take l.one-index l.flushed));
  few : l.count ≤ l.one-index;
}
