use Rattle.std.proofs.Common.{◌-◌, ◌≤◌, length, []}
use Rattle.ix_cells.specs.Tables.{AddsAll, entries_shown}
use Rattle.ix_cells.proofs.lookups.constants.Given as goal

abbrev pub invariant-loop-alloc : goal.invariant-loop-alloc
invariant-loop-alloc l = record {
  count : length l.wires.items ≤ length l.entries;
  all : AddsAll [] l.initial.net l.net l.wires.items l.width (entries_shown l.entries);
}

abbrev pub decreases-loop-alloc : goal.decreases-loop-alloc
decreases-loop-alloc l = length l.entries - length l.wires.items
