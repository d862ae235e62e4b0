use Rattle.std.proofs.Common.{◌≡◌, ◌++◌, drop}
use Rattle.ix_terms.proofs.effect.copied.Given as goal

abbrev pub invariant-loop-table : goal.invariant-loop-table
invariant-loop-table l = l.out.items ++ drop l.table-index l.tables ≡ l.tables
