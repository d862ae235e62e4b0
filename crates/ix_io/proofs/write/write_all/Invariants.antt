use Rattle.std.proofs.Common.{length, ◌-◌, ◌≤◌, take}
use Rattle.ix_io.specs.Sink.{Appends}
use Rattle.ix_io.proofs.write.write_all.Given as goal

-- the bytes before `at` were appended
abbrev pub invariant-loop-at : goal.invariant-loop-at
invariant-loop-at g l = record {
  within : l.at ≤ length l.bytes;
  appends : Appends (g.S.Sink.written l.initial.sink) (g.S.Sink.written l.sink) (take l.at l.bytes);
  never_fell : g.S.Sink.faults l.initial.sink ≤ g.S.Sink.faults l.sink;
}

abbrev pub decreases-loop-at : goal.decreases-loop-at
decreases-loop-at g l = length l.bytes - l.at
