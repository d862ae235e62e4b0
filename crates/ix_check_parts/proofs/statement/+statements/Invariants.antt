use Rattle.std.proofs.Common.{◌≡◌, drop}
use Rattle.ix_tree.specs.Rows.{view_items}
use Rattle.ix_tree.specs.TypedView.{typed_items}
use Rattle.ix_typing.specs.Statements.{judged_row}
use Rattle.ix_typing.proofs.ListedRows.{row_behind}
use Rattle.ix_check_parts.proofs.statement.+statements.Given as goal

-- what is judged of all is what is judged of the rest, behind what was made
abbrev pub invariant-inside-loop-stmt : goal.invariant-inside-loop-stmt
invariant-inside-loop-stmt l =
    judged_row (view_items l.all) l.setting l.fn.state ≡ row_behind (typed_items l.out.items) (judged_row (view_items (drop l.stmt-index l.all)) l.setting l.state)
