use Rattle.std.proofs.Common.{◌≡◌, ◌≤◌, ◌+◌, ◌*◌, drop}
use Rattle.ix_extension.specs.Faults.{count_entries}
use Rattle.ix_encode.proofs.rules.count_entries.Given as goal

abbrev pub invariant-loop-table : goal.invariant-loop-table
invariant-loop-table l = record { sum : l.count + count_entries (drop l.table-index l.tables) ≡ count_entries l.tables; few : l.count ≤ 18446744073709551615 * l.table-index }
