use Rattle.std.proofs.Common.{◌≤◌, drop}
use Rattle.ix_dump.specs.Dump.{changes_text, raws, row_before, widths}
use Rattle.ix_dump.proofs.Passing.{PartOf}
use Rattle.ix_dump.proofs.row.write_changes.Given as goal

abbrev pub invariant-loop-k : goal.invariant-loop-k
invariant-loop-k g l = record {
  part : PartOf (g.S.Sink.written l.fn.sink) (g.S.Sink.written l.sink) l.fn.out l.out
      (changes_text (row_before l.number (raws l.before)) l.k (drop l.k (widths l.now)) (drop l.k (raws l.now)))
      (changes_text (row_before l.number (raws l.before)) 0 (widths l.now) (raws l.now));
  never_fell : g.S.Sink.faults l.fn.sink ≤ g.S.Sink.faults l.sink;
}
