use Rattle.std.proofs.Common.{◌≡◌, drop}
use Rattle.ix_tree.specs.Rows.{view_whole, view_items}
use Rattle.ix_tree.specs.Unrolling.{row_join, inside, met_row, copies, copy_marks}
use Rattle.ix_unroll.specs.Scopes.{bindings}
use Rattle.ix_unroll.specs.Turning.{body_row, body_marks}
use Rattle.ix_unroll.proofs.Going.{Going}
use Rattle.ix_unroll.proofs.statement.+statements.Given as goal

-- the statements that are made and those to be made; the marks that are left
abbrev pub invariant-inside-loop-stmt : goal.invariant-inside-loop-stmt
invariant-inside-loop-stmt l =
    let bs = bindings l.scope in
    let rest = view_items (drop l.stmt-index l.all) in
    record {
      tree : row_join (view_items l.out.items) (inside rest bs) ≡ inside (view_items l.all) bs;
      marks : Going l.fn.room.statements (met_row (view_items l.all) bs) (met_row rest bs) l.room.statements;
    }

abbrev pub invariant-copies-loop-value : goal.invariant-copies-loop-value
invariant-copies-loop-value l =
    let bs = bindings l.scope in
    let body = view_whole l.head.body in
    let rest = drop l.value-index l.values in
    let row = body_row body l.head.name bs in
    let marks = body_marks body l.head.name bs in
    record {
      tree : row_join (view_items l.out.items) (copies l.span row rest) ≡ row_join (view_items l.fn.out.items) (copies l.span row l.values);
      marks : Going l.fn.room.statements (copy_marks l.span marks l.values) (copy_marks l.span marks rest) l.room.statements;
    }
