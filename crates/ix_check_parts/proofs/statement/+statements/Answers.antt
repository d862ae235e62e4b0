use Rattle.std.proofs.Common.{◌≡◌, ◌≤◌, ◌+◌, ◌∙◌, sym, ap, subst, arith, rules, List, [], ◌∷◌, drop, length, Result}
use Rattle.std.proofs.Math.ListN.{drop_of_length-le}
use Rattle.ix_tree.specs.declared.stmt.Stmt.{Stmt}
use Rattle.ix_tree.specs.declared.stmt.StmtKind.TheViews.{the_lemmas}
use Rattle.ix_tree.specs.declared.typed.TypedExpr.{TypedExpr}
use Rattle.ix_tree.specs.declared.typed.TypedStmt.{TypedStmt}
use Rattle.ix_tree.specs.Trees.{StmtTree, StmtRow, s_if_else}
use Rattle.ix_tree.specs.View.{view}
use Rattle.ix_tree.specs.Rows.{view_whole, view_items}
use Rattle.ix_tree.specs.TypedView.{typed_view, typed_whole, typed_items}
use Rattle.ix_tree.proofs.Views.{block_whole, items_rest}
use Rattle.ix_tree.proofs.TypedViews.{typed_items_join}
use Rattle.ix_typing.specs.declared.state.Setting.{Setting}
use Rattle.ix_typing.specs.Statements.{judged_stmt, judged_row, in_scope, block, choice_else, below_if}
use Rattle.ix_typing.proofs.ListedRows.{row_behind, row_steps, row_ends}
use Rattle.ix_check_parts.specs.declared.error.CheckErr.{CheckErr}
use Rattle.ix_check_parts.specs.Telling.{TellsStmt, other_branch}
use Rattle.ix_check_parts.proofs.Branches.{block_made, if_else_told}
use Rattle.ix_check_parts.proofs.statement.+statements.Goals as goal

pub block-returns-in-Ok : goal.block-returns-in-Ok
block-returns-in-Ok t c =
    block_made c.args.span c.args.state.now c.inside.new.state _ c.in-Ok.all.items c.from_vec.result c.keep.new.self c.len-before.result c.in-Ok.ensures c.from_vec.ensures c.len-before.ensures c.keep.ensures

pub inside-loop-stmt-preserved : goal.inside-loop-stmt-preserved
inside-loop-stmt-preserved t c =
    let xs = c.args.all.now in
    let k = c.loop-stmt.stmt-index in
    let x = c.stmt-item.result in
    let out = c.loop-stmt.out.items in
    row_steps c.args.setting _ _ (view_items (drop (k + 1) xs)) (typed_items out) _ (typed_whole c.in-Ok.stmt) c.loop-stmt.state c.statement.new.state (view_whole x)
    c.loop-stmt.invariant (items_rest xs k x c.loop-stmt-test.true c.stmt-item.is) c.in-Ok.ensures
    (ap typed_items c.in-Ok-put.ensures ∙ typed_items_join out (c.in-Ok.stmt ∷ []))

pub inside-returns : goal.inside-returns
inside-returns t c =
    let xs = c.args.all.now in
    let past : length xs ≤ c.loop-stmt.stmt-index = omega arith in
    row_ends c.args.setting _ (typed_items c.loop-stmt.out.items) c.loop-stmt.state
    (c.loop-stmt.invariant ∙ ap (λ (zs : List Stmt). row_behind (typed_items c.loop-stmt.out.items) (judged_row (view_items zs) c.args.setting c.loop-stmt.state)) (drop_of_length-le xs past))

pub statement-returns-in-Block : goal.statement-returns-in-Block
statement-returns-in-Block t c =
    let st = c.args.state.now in
    let g = c.args.setting in
    let x = c.args.stmt.now in
    let P : List Stmt → Type 0 = λ zs. TellsStmt c.block.result c.block.new.state (block x.span st (judged_row (view_items zs) g st)) in
    let Q : StmtTree → Type 0 = λ z. TellsStmt c.block.result c.block.new.state (judged_stmt z g st) in
    subst Q (sym (block_whole x c.in-Block.all c.in-Block.is)) (subst P c.as_slice.ensures c.block.ensures)

pub statement-returns-in-Ok-with_branch : goal.statement-returns-in-Ok-with_branch
statement-returns-in-Ok-with_branch t c =
    let k = c.in-If-default-default-Some in
    let g = c.args.setting in
    let st = c.args.state.now in
    let s = c.args.stmt.now.span in
    let s1 = c.condition-in-If-default-default-Some.new.state in
    let s2 = c.scoped-x-in-Ok-condition.new.state in
    let after = c.otherwise-y.new.state in
    let b = c.in-Ok-with_branch.branch in
    let y = c.deref-in-Ok-with_branch.result.now in
    let e : view_whole c.args.stmt.now ≡ s_if_else s (view k.c) (view_whole k.x.value) (view_whole y) = search (rules, the_lemmas) in
    let PX : Stmt → Type 0 = λ z. TellsStmt c.scoped-x-in-Ok-condition.result s2 (in_scope s1 (judged_stmt (view_whole z) c.below_if-in-Ok-condition.result s1)) in
    let GX : Setting → Type 0 = λ h. TellsStmt c.scoped-x-in-Ok-condition.result s2 (in_scope s1 (judged_stmt (view_whole k.x.value) h s1)) in
    let RX : Result TypedStmt CheckErr → Type 0 = λ r. TellsStmt r s2 (in_scope s1 (judged_stmt (view_whole k.x.value) (below_if g) s1)) in
    let first = subst RX c.in-Ok-with_branch.ensures.ok.0 (subst GX c.below_if-in-Ok-condition.ensures (subst PX c.deref-in-Ok-condition.ensures c.scoped-x-in-Ok-condition.ensures)) in
    let GY : Setting → Type 0 = λ h. TellsStmt c.otherwise-y.result after (other_branch c.len-before.result s2 (view_whole y) h) in
    let second = subst GY c.below_if-in-Ok-with_branch.ensures c.otherwise-y.ensures in
    let r = other_branch c.len-before.result s2 (view_whole y) (below_if g) in
    let C : TypedExpr → Type 0 = λ q. TellsStmt c.choice_else.result after (choice_else s (typed_view q) (typed_whole b.first) r) in
    let told = subst C c.in-Ok-with_branch.ensures.ok.1 (c.choice_else.ensures after r second) in
    let Q : StmtTree → Type 0 = λ z. TellsStmt c.choice_else.result after (judged_stmt z g st) in
    subst Q (sym e) (if_else_told c.choice_else.result after s (view k.c) (view_whole k.x.value) (view_whole y) g st s1 s2 (typed_view c.in-Ok-condition.c) (typed_whole b.first) c.len-before.result c.in-Ok-condition.ensures first c.len-before.ensures told)
