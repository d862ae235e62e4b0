use Rattle.std.proofs.Common.{◌≡◌, ◌+◌, ◌<◌, take}
use Rattle.std.specs.List.{count_by}
use Rattle.ix_diagnose.specs.Lines.{is_feed}
use Rattle.ix_diagnose.proofs.search.start_of_line.Given as goal

abbrev pub invariant-loop-i : goal.invariant-loop-i
invariant-loop-i l = record {
  some : 0 < l.left;
  counted : count_by is_feed (take l.i l.bytes) + l.left + 1 ≡ l.number;
}
