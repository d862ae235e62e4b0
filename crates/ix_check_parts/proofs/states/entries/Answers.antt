use Rattle.std.proofs.Common.{◌≡◌, ◌≤◌, ◌+◌, ◌∙◌, sym, ap, subst, arith, List, map, drop, length}
use Rattle.ix_tree.specs.Trees.{ExprTree}
use Rattle.ix_tree.specs.TypedTrees.{TypedExprTree}
use Rattle.ix_tree.specs.View.{view}
use Rattle.ix_tree.specs.TypedView.{typed_view}
use Rattle.ix_typing.specs.Refusals.{each}
use Rattle.ix_typing.specs.Texts.{constant}
use Rattle.ix_typing.proofs.Listed.{behind, mapped_rest, mapped_past, mapped_push, each_start, each_step, each_end}
use Rattle.ix_check_parts.proofs.Passing.{each_refuses}
use Rattle.ix_check_parts.proofs.states.entries.Goals as goal

pub loop-entry-init : goal.loop-entry-init
loop-entry-init c =
    let r = each (constant c.args.ty) (map view c.args.all.now) c.args.state.now in
    let P : List TypedExprTree → Type 0 = λ o. r ≡ behind o r in
    subst P (sym (ap (map typed_view) c.new-out.ensures.items)) (each_start r)

pub returns-in-Err : goal.returns-in-Err
returns-in-Err c =
    let xs = c.args.all.now in
    let k = c.loop-entry.entry-index in
    let x = c.entry-item.result in
    each_refuses c.in-Err.error (constant c.args.ty) _ _ (map view (drop (k + 1) xs)) (map typed_view c.loop-entry.out.items) c.args.state.now (view x)
    c.loop-entry.invariant (mapped_rest view xs k x c.loop-entry-test.true c.entry-item.is) c.in-Err.ensures

pub loop-entry-preserved : goal.loop-entry-preserved
loop-entry-preserved c =
    let xs = c.args.all.now in
    let k = c.loop-entry.entry-index in
    let x = c.entry-item.result in
    each_step (constant c.args.ty) _ _ (map view (drop (k + 1) xs)) (map typed_view c.loop-entry.out.items) _ (typed_view c.in-Ok.entry) c.args.state.now c.args.state.now (view x)
    c.loop-entry.invariant (mapped_rest view xs k x c.loop-entry-test.true c.entry-item.is) c.in-Ok.ensures (mapped_push typed_view c.loop-entry.out.items c.put.new.out.items c.in-Ok.entry c.in-Ok-put.ensures)

pub returns : goal.returns
returns c =
    let xs = c.args.all.now in
    let past : length xs ≤ c.loop-entry.entry-index = omega arith in
    each_end (constant c.args.ty) _ (map typed_view c.loop-entry.out.items) c.args.state.now
    (c.loop-entry.invariant ∙ ap (λ (zs : List ExprTree). behind (map typed_view c.loop-entry.out.items) (each (constant c.args.ty) zs c.args.state.now)) (mapped_past view xs c.loop-entry.entry-index past))
