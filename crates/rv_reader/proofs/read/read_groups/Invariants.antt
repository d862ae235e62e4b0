use Rattle.std.proofs.Common.{◌≤◌, ◌-◌, ◌+◌, length}
use Rattle.rv_reader.specs.Traces.{AreGroupsTo}
use Rattle.rv_reader.proofs.read.read_groups.Given as goal

abbrev pub invariant-loop-at : goal.invariant-loop-at
invariant-loop-at l = record {
  within : l.at ≤ length l.text;
  small : l.line ≤ l.at + 1;
  groups : AreGroupsTo l.widths l.text l.start l.first l.at l.line l.low;
}

abbrev pub decreases-loop-at : goal.decreases-loop-at
decreases-loop-at l = length l.text - l.at
