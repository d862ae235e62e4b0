use Rattle.std.proofs.Common.{◌≡◌, IfOk, OnOk, IfErr, ◌+◌, ◌∙◌, sym, ap, subst, rules, List, [], ◌∷◌, ◌++◌, drop, get_or, ℤ, pos}
use Rattle.std.specs.Prelude.{FitsSigned}
use Rattle.std.specs.Int.{w32, cast_signed, cast_unsigned}
use Rattle.std.proofs.lemmas.Int.{to_z-of_z}
use Rattle.std.proofs.lemmas.Result.{err_from_is_err_and}
use Rattle.ix_tree.specs.declared.stmt.Stmt.{Stmt}
use Rattle.ix_tree.specs.Trees.{s_block, s_if_else, StmtTree}
use Rattle.ix_tree.specs.LoopHeads.{Binding}
use Rattle.ix_tree.specs.View.{view}
use Rattle.ix_tree.specs.Rows.{view_whole, view_items}
use Rattle.ix_tree.specs.declared.stmt.StmtKind as StmtKind
use Rattle.ix_tree.specs.declared.stmt.StmtKind.TheViews.{the_lemmas}
use Rattle.ix_tree.proofs.Views.{block_whole}
use Rattle.ix_tree.specs.Unrolling.{Mark, statement, alone, met, met_row, copy_marks, row_join, judged, these}
use Rattle.ix_unroll.specs.Scopes.{bindings}
use Rattle.ix_unroll.specs.Telling.{Passes, Refuses}
use Rattle.ix_unroll.specs.Turning.{head_of, loop_tree, body_row, body_marks, row_marks, opened_row}
use Rattle.ix_unroll.proofs.Going.{going_as, going_start, going_step, going_refuse}
use Rattle.ix_unroll.proofs.Marks.{passes_join, refuses_behind}
use Rattle.ix_unroll.proofs.Statements.{inside_marks, inside_tree, inside_end, copies_marks, copies_tree, copies_end, copy_row, turn_is, loop_met, loop_row_marks, no_loop, no_loop_marks, pushed_row, ok_passes, else_refused, err_to}
use Rattle.ix_tree.specs.declared.stmt.Loop.{Loop}
use Rattle.ix_unroll.proofs.statement.+statements.Goals as goal

-- the tree of a block, as the code has it
block_is : (x : Stmt) (all items : List Stmt) → x.kind ≡ StmtKind.Block all → items ≡ all → s_block x.span (view_items items) ≡ view_whole x
block_is x all items k i = ap (λ (xs : List Stmt). s_block x.span (view_items xs)) i ∙ sym (block_whole x all k)

pub alone-returns-in-Block-clause-tree : goal.alone-returns-in-Block-clause-tree
alone-returns-in-Block-clause-tree t c =
    let bs = bindings c.args.scope.now in
    let P : StmtTree → Type 0 = λ y. IfOk c.blocked.result (λ r. view_whole r ≡ alone y bs) in
    subst P (block_is c.args.stmt.now c.in-Block.all c.as_slice.result.now c.in-Block.is c.as_slice.ensures) c.blocked.ensures.tree

pub alone-returns-in-Block-clause-passed : goal.alone-returns-in-Block-clause-passed
alone-returns-in-Block-clause-passed t c =
    let bs = bindings c.args.scope.now in
    let P : StmtTree → Type 0 = λ y. OnOk c.blocked.result (Passes c.args.room.now.statements (met y bs) c.blocked.new.room.statements) in
    subst P (block_is c.args.stmt.now c.in-Block.all c.as_slice.result.now c.in-Block.is c.as_slice.ensures) c.blocked.ensures.passed

pub alone-returns-in-Block-clause-refused : goal.alone-returns-in-Block-clause-refused
alone-returns-in-Block-clause-refused t c =
    let bs = bindings c.args.scope.now in
    let P : StmtTree → Type 0 = λ y. IfErr c.blocked.result (λ d. Refuses d c.args.room.now.statements (met y bs)) in
    subst P (block_is c.args.stmt.now c.in-Block.all c.as_slice.result.now c.in-Block.is c.as_slice.ensures) c.blocked.ensures.refused

pub alone-returns-in-Err-clause-refused : goal.alone-returns-in-Err-clause-refused
alone-returns-in-Err-clause-refused t c =
    let k = c.in-If-default-default-Some in
    let bs = bindings c.args.scope.now in
    let s = c.args.stmt.now.span in
    let e : view_whole c.args.stmt.now ≡ s_if_else s (view k.condition) (view_whole k.x.value) (view_whole k.y.value) = search (rules, the_lemmas) in
    let P : Stmt → Type 0 = λ x. Refuses c.in-Err.error c.counted-in-If-default-default-Some.new.room.statements (met (view_whole x) bs) in
    let f = subst P c.deref-in-If-default-default-Some.ensures c.in-Err.ensures.refused in
    let whole = going_step (statement s ∷ []) (met (view_whole k.x.value) bs ++ met (view_whole k.y.value) bs) (going_start c.args.room.now.statements _) c.in_ok-counted-in-If-default-default-Some.ensures.passed in
    rw e (going_refuse c.in-Err.error (met (view_whole k.x.value) bs) (met (view_whole k.y.value) bs) whole f)

pub alone-returns-in-Ok-clause-passed : goal.alone-returns-in-Ok-clause-passed
alone-returns-in-Ok-clause-passed t c =
    let k = c.in-If-default-default-Some in
    let bs = bindings c.args.scope.now in
    let n = c.args.room.now.statements in
    let s = c.args.stmt.now.span in
    let y = c.deref-in-Ok.result.now in
    let mx = met (view_whole k.x.value) bs in
    let my = met (view_whole y) bs in
    let e : view_whole c.args.stmt.now ≡ s_if_else s (view k.condition) (view_whole k.x.value) (view_whole y) = search (rules, the_lemmas) in
    let Px : Stmt → Type 0 = λ x. Passes c.counted-in-If-default-default-Some.new.room.statements (met (view_whole x) bs) c.alone-in-If-default-default-Some.new.room.statements in
    let px = subst Px c.deref-in-If-default-default-Some.ensures c.in-Ok.ensures.passed in
    rw e (ok_passes c.choice_else.result c.alone-y.result (Passes c.alone-in-If-default-default-Some.new.room.statements my c.alone-y.new.room.statements) (Passes n ((statement s ∷ []) ++ (mx ++ my)) c.alone-y.new.room.statements) c.choice_else.ensures.ok c.alone-y.ensures.passed
    (λ q. passes_join c.in_ok-counted-in-If-default-default-Some.ensures.passed (passes_join px q)))

pub alone-returns-in-Ok-clause-refused : goal.alone-returns-in-Ok-clause-refused
alone-returns-in-Ok-clause-refused t c =
    let k = c.in-If-default-default-Some in
    let bs = bindings c.args.scope.now in
    let n = c.args.room.now.statements in
    let s = c.args.stmt.now.span in
    let y = c.deref-in-Ok.result.now in
    let mx = met (view_whole k.x.value) bs in
    let my = met (view_whole y) bs in
    let e : view_whole c.args.stmt.now ≡ s_if_else s (view k.condition) (view_whole k.x.value) (view_whole y) = search (rules, the_lemmas) in
    let m = c.alone-in-If-default-default-Some.new.room.statements in
    let Px : Stmt → Type 0 = λ x. Passes c.counted-in-If-default-default-Some.new.room.statements (met (view_whole x) bs) m in
    let px = subst Px c.deref-in-If-default-default-Some.ensures c.in-Ok.ensures.passed in
    let front = passes_join c.in_ok-counted-in-If-default-default-Some.ensures.passed px in
    rw e (else_refused c.choice_else.result c.alone-y.result (λ d. Refuses d m my) (λ d. Refuses d n (((statement s ∷ []) ++ mx) ++ my)) c.choice_else.ensures.err c.alone-y.ensures.refused tt
    (λ d h. refuses_behind d n m ((statement s ∷ []) ++ mx) my front h))

pub copies-returns-in_err-counted-clause-refused : goal.copies-returns-in_err-counted-clause-refused
copies-returns-in_err-counted-clause-refused t c =
    let p = err_from_is_err_and c.from_residual.result c.from_residual.ensures.1 in
    let marks = body_marks (view_whole c.args.head.now.body) c.args.head.now.name (bindings c.args.scope.now) in
    let vs = c.args.values.now in
    let k = c.loop-value.value-index in
    let v = get_or vs k (pos 0) in
    let s = c.args.span in
    let rest = marks v ++ copy_marks s marks (drop (k + 1) vs) in
    rw (p.1, p.2) (going_refuse _ (statement s ∷ []) rest (going_as _ ((statement s ∷ []) ++ rest) (copies_marks s marks vs k c.loop-value-test.true) c.loop-value.invariant.marks) (c.in_err-counted.ensures.refused []))

pub copies-returns-in_err-opened-clause-refused : goal.copies-returns-in_err-opened-clause-refused
copies-returns-in_err-opened-clause-refused t c =
    let p = err_from_is_err_and c.from_residual-in_err-opened.result c.from_residual-in_err-opened.ensures.1 in
    let bs = bindings c.args.scope.now in
    let body = view_whole c.args.head.now.body in
    let n = c.args.head.now.name in
    let marks = body_marks body n bs in
    let vs = c.args.values.now in
    let k = c.loop-value.value-index in
    let v = get_or vs k (pos 0) in
    let fits : FitsSigned w32 v = search rules in
    let turn = turn_is c.as_str.result.now n v _ bs c.as_str.ensures.text (to_z-of_z w32 v fits) in
    let s = c.args.span in
    let rest = copy_marks s marks (drop (k + 1) vs) in
    let P : List Binding → Type 0 = λ env. Refuses c.in_err-opened.field-0.0 c.counted.new.room.statements (row_marks body env) in
    let f = subst P turn c.in_err-opened.ensures.refused in
    rw (p.1, p.2) (going_refuse _ (marks v) rest (going_step (statement s ∷ []) (marks v ++ rest) (going_as _ ((statement s ∷ []) ++ (marks v ++ rest)) (copies_marks s marks vs k c.loop-value-test.true) c.loop-value.invariant.marks) c.in_ok-counted.ensures.passed) f)

pub copies-loop-value-preserved : goal.copies-loop-value-preserved
copies-loop-value-preserved t c =
    let bs = bindings c.args.scope.now in
    let body = view_whole c.args.head.now.body in
    let n = c.args.head.now.name in
    let marks = body_marks body n bs in
    let row = body_row body n bs in
    let vs = c.args.values.now in
    let k = c.loop-value.value-index in
    let v = get_or vs k (pos 0) in
    let fits : FitsSigned w32 v = search rules in
    let turn = turn_is c.as_str.result.now n v _ bs c.as_str.ensures.text (to_z-of_z w32 v fits) in
    let s = c.args.span in
    let rest = copy_marks s marks (drop (k + 1) vs) in
    let P : List Binding → Type 0 = λ env. Passes c.counted.new.room.statements (row_marks body env) c.opened.new.room.statements in
    let passed = subst P turn c.in_ok-opened.ensures.passed in
    let turn_env : List Binding = (let b : Binding = record { name = c.as_str.result.now; value = cast_signed w32 (cast_unsigned w32 v) } in b) ∷ bs in
    let made : view_items c.opened.new.out.items ≡ row v =
    c.in_ok-opened.ensures.tree
    ∙ ap (λ (xs : List Stmt). row_join (view_items xs) (opened_row body turn_env)) c.new-body.ensures.items
    ∙ ap (λ (env : List Binding). opened_row body env) turn in
    record {
      tree =
          copies_tree s row (view_items c.loop-value.out.items) (view_items c.put.new.out.items) vs k c.loop-value-test.true
          (copy_row c.loop-value.out.items c.put.new.out.items c.opened.new.out.items c.block.result s (row v) c.in_ok-put.ensures c.block.ensures made)
          ∙ c.loop-value.invariant.tree;
      marks =
          going_step (marks v) rest
          (going_step (statement s ∷ []) (marks v ++ rest) (going_as _ ((statement s ∷ []) ++ (marks v ++ rest)) (copies_marks s marks vs k c.loop-value-test.true) c.loop-value.invariant.marks) c.in_ok-counted.ensures.passed)
          passed;
    }

pub copies-returns-clause-tree : goal.copies-returns-clause-tree
copies-returns-clause-tree t c =
    copies_end c.args.span (body_row (view_whole c.args.head.now.body) c.args.head.now.name (bindings c.args.scope.now)) (view_items c.loop-value.out.items) _ c.args.values.now c.loop-value.value-index c.loop-value-test.false c.loop-value.invariant.tree

pub inside-returns-in_err-opened-clause-refused : goal.inside-returns-in_err-opened-clause-refused
inside-returns-in_err-opened-clause-refused t c =
    let p = err_from_is_err_and c.from_residual.result c.from_residual.ensures.1 in
    let bs = bindings c.args.scope.now in
    let all = c.args.all.now in
    let k = c.loop-stmt.stmt-index in
    let x = c.stmt-item.result in
    let rest = met_row (view_items (drop (k + 1) all)) bs in
    rw (p.1, p.2) (going_refuse _ (row_marks (view_whole x) bs) rest (going_as _ (row_marks (view_whole x) bs ++ rest) (inside_marks all k x bs c.loop-stmt-test.true c.stmt-item.is) c.loop-stmt.invariant.marks) c.in_err-opened.ensures.refused)

pub inside-loop-stmt-preserved : goal.inside-loop-stmt-preserved
inside-loop-stmt-preserved t c =
    let bs = bindings c.args.scope.now in
    let all = c.args.all.now in
    let k = c.loop-stmt.stmt-index in
    let x = c.stmt-item.result in
    let rest = met_row (view_items (drop (k + 1) all)) bs in
    record {
      tree = inside_tree (view_items c.loop-stmt.out.items) (view_items c.opened.new.out.items) all k x bs c.loop-stmt-test.true c.stmt-item.is c.in_ok-opened.ensures.tree ∙ c.loop-stmt.invariant.tree;
      marks = going_step (row_marks (view_whole x) bs) rest (going_as _ (row_marks (view_whole x) bs ++ rest) (inside_marks all k x bs c.loop-stmt-test.true c.stmt-item.is) c.loop-stmt.invariant.marks) c.in_ok-opened.ensures.passed;
    }

pub inside-returns-clause-tree : goal.inside-returns-clause-tree
inside-returns-clause-tree t c =
    inside_end (view_items c.loop-stmt.out.items) _ c.args.all.now c.loop-stmt.stmt-index (bindings c.args.scope.now) c.loop-stmt-test.false c.loop-stmt.invariant.tree

pub looped-returns-in_err-copies-clause-refused : goal.looped-returns-in_err-copies-clause-refused
looped-returns-in_err-copies-clause-refused t c =
    let p = err_from_is_err_and c.from_residual-in_err-copies.result c.from_residual-in_err-copies.ensures.1 in
    let bs = bindings c.args.scope.now in
    let l = c.args.head.now in
    let s = c.args.span in
    let n = c.args.room.now.statements in
    let vs = c.in_ok-values.values.items in
    let marks = body_marks (view_whole l.body) l.name bs in
    let P : List ℤ → Type 0 = λ ws. Refuses c.in_err-copies.field-0.0 c.counted.new.room.statements (copy_marks s marks ws) in
    let f = subst P c.as_slice.ensures.value c.in_err-copies.ensures.refused in
    let Q : List Mark → Type 0 = λ ms. Refuses c.in_err-copies.field-0.0 n ms in
    rw (p.1, p.2) (subst Q (sym (loop_met s l bs vs c.in_ok-values.ensures.values)) (refuses_behind _ n c.counted.new.room.statements (statement s ∷ []) (copy_marks s marks vs) c.in_ok-counted.ensures.passed f))

pub looped-returns-clause-passed : goal.looped-returns-clause-passed
looped-returns-clause-passed t c =
    let bs = bindings c.args.scope.now in
    let l = c.args.head.now in
    let s = c.args.span in
    let n = c.args.room.now.statements in
    let vs = c.in_ok-values.values.items in
    let marks = body_marks (view_whole l.body) l.name bs in
    let P : List ℤ → Type 0 = λ ws. Passes c.counted.new.room.statements (copy_marks s marks ws) c.copies.new.room.statements in
    let f = subst P c.as_slice.ensures.value c.in_ok-copies.ensures.passed in
    let Q : List Mark → Type 0 = λ ms. Passes n ms c.copies.new.room.statements in
    subst Q (sym (loop_met s l bs vs c.in_ok-values.ensures.values)) (passes_join c.in_ok-counted.ensures.passed f)

pub opened-returns-in_ok-values-in-For-clause-refused : goal.opened-returns-in_ok-values-in-For-clause-refused
opened-returns-in_ok-values-in-For-clause-refused t c =
    let bs = bindings c.args.scope.now in
    let n = c.args.room.now.statements in
    let s = c.args.stmt.now.span in
    let l = c.in-For.head.value in
    let vs = c.in_ok-values-in-For.values.items in
    let e : view_whole c.args.stmt.now ≡ loop_tree s l = search (rules, the_lemmas) in
    let J : Loop → Type 0 = λ h. judged bs (head_of h) (view_whole h.body) ≡ these vs in
    let j = subst J c.deref.ensures c.in_ok-values-in-For.ensures.values in
    let marks = row_marks (view_whole c.args.stmt.now) bs in
    err_to c.copies.result
    (λ d. Refuses d n (copy_marks s (body_marks (view_whole c.deref-in-For.result.now.body) c.deref-in-For.result.now.name bs) c.as_slice.result.now))
    (λ d. Refuses d n marks)
    c.copies.ensures.refused
    (λ d h.
    let P : Loop → Type 0 = λ m. Refuses d n (copy_marks s (body_marks (view_whole m.body) m.name bs) c.as_slice.result.now) in
    let Q : List ℤ → Type 0 = λ ws. Refuses d n (copy_marks s (body_marks (view_whole l.body) l.name bs) ws) in
    let R : List Mark → Type 0 = λ ms. Refuses d n ms in
    subst R (sym (ap (λ (x : StmtTree). row_marks x bs) e ∙ loop_row_marks s l bs vs j)) (subst Q c.as_slice.ensures.value (subst P c.deref-in-For.ensures h)))

pub opened-returns-in_ok-put-in_default : goal.opened-returns-in_ok-put-in_default
opened-returns-in_ok-put-in_default t c =
    let x = c.args.stmt.now in
    let bs = bindings c.args.scope.now in
    let f = no_loop x c.in_default.not-For in
    record {
      tree = pushed_row c.args.out.now.items c.put.new.out.items c.in_ok-stmt-in_default.stmt x bs c.in_ok-put-in_default.ensures f c.in_ok-stmt-in_default.ensures.tree;
      passed = let P : List Mark → Type 0 = λ ms. Passes c.args.room.now.statements ms c.alone.new.room.statements in subst P (sym (no_loop_marks x bs f)) c.in_ok-stmt-in_default.ensures.passed;
      refused = tt;
    }
