use Rattle.std.proofs.Common.{◌≡◌, drop}
use Rattle.ix_tree.specs.Rows.{view_items}
use Rattle.ix_typing.specs.Statements.{row_writes}
use Rattle.ix_check_parts.proofs.statement.+writes.Given as goal

abbrev pub invariant-any_writes-loop-stmt : goal.invariant-any_writes-loop-stmt
invariant-any_writes-loop-stmt l = row_writes l.names (view_items l.all) ≡ row_writes l.names (view_items (drop l.stmt-index l.all))
