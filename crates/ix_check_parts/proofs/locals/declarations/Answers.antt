use Rattle.std.proofs.Common.{◌≡◌, ◌≤◌, ◌+◌, ◌∙◌, sym, ap, subst, arith, List, [], ◌∷◌, map, drop, length}
use Rattle.ix_tree.specs.declared.stmt.Decl.{Decl}
use Rattle.ix_tree.specs.Trees.{DeclTree}
use Rattle.ix_tree.specs.TypedTrees.{TypedDeclTree}
use Rattle.ix_tree.specs.View.{view_decl}
use Rattle.ix_tree.specs.TypedView.{typed_decl}
use Rattle.ix_typing.specs.Refusals.{each}
use Rattle.ix_typing.specs.Statements.{judged_decls, judged_decl}
use Rattle.ix_typing.proofs.Listed.{behind, mapped_rest, mapped_past, mapped_push, each_start, each_step, each_end}
use Rattle.ix_check_parts.proofs.Passing.{each_refuses}
use Rattle.ix_check_parts.proofs.locals.declarations.Goals as goal

pub loop-decl-init : goal.loop-decl-init
loop-decl-init c =
    let r = judged_decls c.args.setting c.args.ty (map view_decl c.args.decls.now) c.args.state.now in
    let P : List TypedDeclTree → Type 0 = λ o. r ≡ behind o r in
    subst P (sym (ap (map typed_decl) c.new-out.ensures.items)) (each_start r)

pub returns-in-Err : goal.returns-in-Err
returns-in-Err c =
    let xs = c.args.decls.now in
    let k = c.loop-decl.decl-index in
    let x = c.decl-item.result in
    each_refuses c.in-Err.error (judged_decl c.args.setting c.args.ty) _ _ (map view_decl (drop (k + 1) xs)) (map typed_decl c.loop-decl.out.items) c.loop-decl.state (view_decl x)
    c.loop-decl.invariant (mapped_rest view_decl xs k x c.loop-decl-test.true c.decl-item.is) c.in-Err.ensures

pub loop-decl-preserved : goal.loop-decl-preserved
loop-decl-preserved c =
    let xs = c.args.decls.now in
    let k = c.loop-decl.decl-index in
    let x = c.decl-item.result in
    each_step (judged_decl c.args.setting c.args.ty) _ _ (map view_decl (drop (k + 1) xs)) (map typed_decl c.loop-decl.out.items) _ (typed_decl c.in-Ok.decl) c.loop-decl.state c.declaration.new.state (view_decl x)
    c.loop-decl.invariant (mapped_rest view_decl xs k x c.loop-decl-test.true c.decl-item.is) c.in-Ok.ensures (mapped_push typed_decl c.loop-decl.out.items c.put.new.out.items c.in-Ok.decl c.in-Ok-put.ensures)

pub returns : goal.returns
returns c =
    let f = judged_decl c.args.setting c.args.ty in
    let xs = c.args.decls.now in
    let past : length xs ≤ c.loop-decl.decl-index = omega arith in
    each_end f _ (map typed_decl c.loop-decl.out.items) c.loop-decl.state
    (c.loop-decl.invariant ∙ ap (λ (zs : List DeclTree). behind (map typed_decl c.loop-decl.out.items) (each f zs c.loop-decl.state)) (mapped_past view_decl xs c.loop-decl.decl-index past))
