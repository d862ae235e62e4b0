use Rattle.std.proofs.Common.{◌≡◌, ◌++◌, map, drop}
use Rattle.ix_slots.specs.Found.{entries_in}
use Rattle.ix_graphs.proofs.behaviour.entries.Given as goal

abbrev pub invariant-loop-table : goal.invariant-loop-table
invariant-loop-table l = l.out.items ++ map entries_in (drop l.table-index l.tables) ≡ map entries_in l.tables
