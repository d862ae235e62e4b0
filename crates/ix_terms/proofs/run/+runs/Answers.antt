use Rattle.std.proofs.Common.{◌≡◌, ◌∙◌, sym, subst, refl, rules, true, false}
use Rattle.ix_mean.specs.Core.{Statement, st_if}
use Rattle.ix_mean.specs.Typing.{IsTypedStatement}
use Rattle.ix_mean.specs.View.{frame_of, view_statement, view_expression}
use Rattle.ix_mean.proofs.Executing.{block_view, all_rest}
use Rattle.ix_terms.specs.Stores.{stock_of, at}
use Rattle.ix_terms.specs.Places.{HasLoads}
use Rattle.ix_terms.specs.Ends.{ends_at, HasEnds, both_ends, both_loads, first_of, second_of}
use Rattle.ix_terms.proofs.Makes.{ok_as}
use Rattle.ix_terms.proofs.Loading.{on_from, both_ok}
use Rattle.ix_terms.proofs.RunLoads.{beside_loads, branches_loads, one_loads, both_loads_told}
use Rattle.ix_terms.proofs.Ending.{doing_start, doing_step, beside_told, ends_on, branches_made, on_ok, test_as, one_told, both_told}
use Rattle.ix_terms.proofs.run.+runs.Goals as goal

pub run_all-loop-x-init : goal.run_all-loop-x-init
run_all-loop-x-init t c =
    doing_start c.args.source.now (stock_of c.args.store.now) c.args.p c.args.slots.now.items c.args.targets.now.items c.args.loads.now.items _ _ (block_view c.args.source.now.tables c.args.all.now) c.requires.ends c.requires.typed

pub beside-returns-clause-ends : goal.beside-returns-clause-ends
beside-returns-clause-ends t c =
    beside_told c.args.source.now (stock_of c.args.store.now) (stock_of c.run.new.store) c.args.slots.now c.in_ok-ends.ends.slots.items _ c.args.targets.now c.in_ok-ends.ends.targets.items _ c.args.p c.args.other (view_statement c.args.source.now.tables c.args.x.now)
    c.in_ok-ends.ensures c.requires.others c.in_ok-run.ensures.ends

pub branches-joined-requires-clause-first : goal.branches-joined-requires-clause-first
branches-joined-requires-clause-first t c =
    ends_on c.args.source.now _ _ _ _ _ c.in_ok-second-in-If.ensures.ends.has.grows c.in_ok-first-in-If.ensures.ends.has.ends

pub branches-returns-in_ok-second-in-If-clause-ends : goal.branches-returns-in_ok-second-in-If-clause-ends
branches-returns-in_ok-second-in-If-clause-ends t c =
    let f = c.args.source.now in
    let old = stock_of c.args.store.now in
    let new = stock_of c.joined.new.store in
    let x = view_statement c.args.source.now.tables c.deref.result.now in
    let y = view_statement c.args.source.now.tables c.deref-in-If.result.now in
    let e : view_statement c.args.source.now.tables c.args.whole.now ≡ st_if (view_expression c.args.source.now.tables c.in-If.field-0) x y = search rules in
    let ty : IsTypedStatement (frame_of f.types) (st_if (view_expression c.args.source.now.tables c.in-If.field-0) x y) = subst (IsTypedStatement (frame_of f.types)) e c.requires.typed in
    ok_as c.joined.result _ _
    (λ k h.
    let P : Statement → Type 0 = λ w. HasEnds f old new c.args.p (both_ends (at old c.args.p) (at old c.args.t) (first_of w) (second_of w) (ends_at old c.args.slots.now c.args.targets.now)) k.slots.items k.targets.items in
    subst P (sym e) (branches_made f old (stock_of c.split_path.new.store) (stock_of c.beside.new.store) (stock_of c.beside-in-If.new.store) new c.args.slots.now c.in_ok-first-in-If.first.slots.items c.in_ok-second-in-If.second.slots.items k.slots.items
    c.args.targets.now c.in_ok-first-in-If.first.targets.items c.in_ok-second-in-If.second.targets.items k.targets.items c.args.p c.args.t c.in_ok-b-in-If.b x y c.requires.ends c.requires.test ty.1 ty.2
    c.in_ok-b-in-If.ensures c.in_ok-first-in-If.ensures.ends c.in_ok-second-in-If.ensures.ends h))
    c.joined.ensures

pub run-returns-then-holds-clause-ends : goal.run-returns-then-holds-clause-ends
run-returns-then-holds-clause-ends t c =
    let f = c.args.source.now in
    let old = stock_of c.args.store.now in
    let mid = stock_of c.tested.new.store in
    let x = view_statement c.args.source.now.tables c.deref.result.now in
    let y = view_statement c.args.source.now.tables c.in-If.y.value in
    let e : view_statement c.args.source.now.tables c.args.whole.now ≡ st_if (view_expression c.args.source.now.tables c.in-If.c) x y = search rules in
    let g = test_as f old mid c.args.slots.now.items _ c.args.targets.now.items _ c.args.p (view_expression c.args.source.now.tables c.in-If.c) c.in_ok-t-in-If.t c.as_slice-in-If.ensures.value c.as_slice-in-If-2.ensures.value c.in_ok-t-in-If.ensures.test in
    on_ok c.run.result _ _
    (λ k. one_told f old mid (stock_of c.run.new.store) c.args.slots.now.items _ c.args.targets.now.items _ c.args.p c.in_ok-t-in-If.t (view_statement c.args.source.now.tables c.args.whole.now) x (view_expression c.args.source.now.tables c.in-If.c) x y c.in-Some.v.ty c.in-Some.v.bits.raw true c.requires.ends g
    c.in-Some.ensures.constant (sym c.holds.ensures ∙ c.if-holds.true) e refl k)
    c.run.ensures.ends

pub run-returns-else-holds-clause-ends : goal.run-returns-else-holds-clause-ends
run-returns-else-holds-clause-ends t c =
    let f = c.args.source.now in
    let old = stock_of c.args.store.now in
    let mid = stock_of c.tested.new.store in
    let x = view_statement c.args.source.now.tables c.in-If.x.value in
    let y = view_statement c.args.source.now.tables c.deref-else-holds.result.now in
    let e : view_statement c.args.source.now.tables c.args.whole.now ≡ st_if (view_expression c.args.source.now.tables c.in-If.c) x y = search rules in
    let g = test_as f old mid c.args.slots.now.items _ c.args.targets.now.items _ c.args.p (view_expression c.args.source.now.tables c.in-If.c) c.in_ok-t-in-If.t c.as_slice-in-If.ensures.value c.as_slice-in-If-2.ensures.value c.in_ok-t-in-If.ensures.test in
    on_ok c.run-else-holds.result _ _
    (λ k. one_told f old mid (stock_of c.run-else-holds.new.store) c.args.slots.now.items _ c.args.targets.now.items _ c.args.p c.in_ok-t-in-If.t (view_statement c.args.source.now.tables c.args.whole.now) y (view_expression c.args.source.now.tables c.in-If.c) x y c.in-Some.v.ty c.in-Some.v.bits.raw false c.requires.ends g
    c.in-Some.ensures.constant (sym c.holds.ensures ∙ c.if-holds.false) e refl k)
    c.run-else-holds.ensures.ends

pub run-returns-in_ok-ends-in-None-clause-ends : goal.run-returns-in_ok-ends-in-None-clause-ends
run-returns-in_ok-ends-in-None-clause-ends t c =
    let f = c.args.source.now in
    let old = stock_of c.args.store.now in
    let mid = stock_of c.tested.new.store in
    let x = view_statement c.args.source.now.tables c.in-If.x.value in
    let y = view_statement c.args.source.now.tables c.in-If.y.value in
    let e : view_statement c.args.source.now.tables c.args.whole.now ≡ st_if (view_expression c.args.source.now.tables c.in-If.c) x y = search rules in
    let g = test_as f old mid c.args.slots.now.items _ c.args.targets.now.items _ c.args.p (view_expression c.args.source.now.tables c.in-If.c) c.in_ok-t-in-If.t c.as_slice-in-If.ensures.value c.as_slice-in-If-2.ensures.value c.in_ok-t-in-If.ensures.test in
    both_told f old mid (stock_of c.branches.new.store) c.args.slots.now.items c.as_slice-in-None.result.now _ c.args.targets.now.items c.as_slice-in-None-2.result.now _ c.args.p c.in_ok-t-in-If.t (view_statement c.args.source.now.tables c.args.whole.now) (view_expression c.args.source.now.tables c.in-If.c) x y c.requires.ends g
    c.in-None.ensures.operation e c.as_slice-in-None.ensures.value c.as_slice-in-None-2.ensures.value c.in_ok-ends-in-None.ensures.ends

-- ---- loads
pub beside-returns-clause-loads : goal.beside-returns-clause-loads
beside-returns-clause-loads t c =
    beside_loads (stock_of c.args.store.now) (stock_of c.run.new.store) _ _ c.args.slots.now c.in_ok-ends.ends.slots.items c.args.targets.now c.in_ok-ends.ends.targets.items c.args.p (view_statement c.args.source.now.tables c.args.x.now) c.in_ok-ends.ensures c.in_ok-run.ensures.loads

pub branches-returns-in_ok-second-in-If-clause-loads : goal.branches-returns-in_ok-second-in-If-clause-loads
branches-returns-in_ok-second-in-If-clause-loads t c =
    let old = stock_of c.args.store.now in
    let new = stock_of c.joined.new.store in
    let x = view_statement c.args.source.now.tables c.deref.result.now in
    let y = view_statement c.args.source.now.tables c.deref-in-If.result.now in
    let e : view_statement c.args.source.now.tables c.args.whole.now ≡ st_if (view_expression c.args.source.now.tables c.in-If.field-0) x y = search rules in
    on_from c.joined.result _ _
    (λ k h.
    let P : Statement → Type 0 = λ w. HasLoads new c.args.loads.now.items c.beside-in-If.new.loads.items (both_loads (at old c.args.p) (at old c.args.t) (first_of w) (second_of w) (ends_at old c.args.slots.now c.args.targets.now)) in
    subst P (sym e) (branches_loads c.args.source.now old (stock_of c.split_path.new.store) (stock_of c.beside.new.store) (stock_of c.beside-in-If.new.store) new _ _ _ c.args.slots.now c.args.targets.now c.args.p c.args.t c.in_ok-b-in-If.b x y
    c.requires.ends c.in_ok-b-in-If.ensures c.in_ok-first-in-If.ensures.ends.has.grows c.in_ok-second-in-If.ensures.ends.has.grows h.grows c.in_ok-first-in-If.ensures.loads c.in_ok-second-in-If.ensures.loads))
    c.joined.ensures

pub run-returns-then-holds-clause-loads : goal.run-returns-then-holds-clause-loads
run-returns-then-holds-clause-loads t c =
    let f = c.args.source.now in
    let old = stock_of c.args.store.now in
    let mid = stock_of c.tested.new.store in
    let x = view_statement c.args.source.now.tables c.deref.result.now in
    let y = view_statement c.args.source.now.tables c.in-If.y.value in
    let e : view_statement c.args.source.now.tables c.args.whole.now ≡ st_if (view_expression c.args.source.now.tables c.in-If.c) x y = search rules in
    let g = test_as f old mid c.args.slots.now.items _ c.args.targets.now.items _ c.args.p (view_expression c.args.source.now.tables c.in-If.c) c.in_ok-t-in-If.t c.as_slice-in-If.ensures.value c.as_slice-in-If-2.ensures.value c.in_ok-t-in-If.ensures.test in
    both_ok c.run.result _ _ _
    (λ k m. one_loads f old mid (stock_of c.run.new.store) _ _ _ c.args.slots.now.items _ c.args.targets.now.items c.args.p c.in_ok-t-in-If.t (view_statement c.args.source.now.tables c.args.whole.now) x (view_expression c.args.source.now.tables c.in-If.c) x y c.in-Some.v.ty c.in-Some.v.bits.raw true c.requires.ends g
    c.as_slice-in-If.ensures.value c.in_ok-t-in-If.ensures.loads k.grows c.in-Some.ensures.constant (sym c.holds.ensures ∙ c.if-holds.true) e refl m)
    c.run.ensures.ends c.run.ensures.loads

pub run-returns-else-holds-clause-loads : goal.run-returns-else-holds-clause-loads
run-returns-else-holds-clause-loads t c =
    let f = c.args.source.now in
    let old = stock_of c.args.store.now in
    let mid = stock_of c.tested.new.store in
    let x = view_statement c.args.source.now.tables c.in-If.x.value in
    let y = view_statement c.args.source.now.tables c.deref-else-holds.result.now in
    let e : view_statement c.args.source.now.tables c.args.whole.now ≡ st_if (view_expression c.args.source.now.tables c.in-If.c) x y = search rules in
    let g = test_as f old mid c.args.slots.now.items _ c.args.targets.now.items _ c.args.p (view_expression c.args.source.now.tables c.in-If.c) c.in_ok-t-in-If.t c.as_slice-in-If.ensures.value c.as_slice-in-If-2.ensures.value c.in_ok-t-in-If.ensures.test in
    both_ok c.run-else-holds.result _ _ _
    (λ k m. one_loads f old mid (stock_of c.run-else-holds.new.store) _ _ _ c.args.slots.now.items _ c.args.targets.now.items c.args.p c.in_ok-t-in-If.t (view_statement c.args.source.now.tables c.args.whole.now) y (view_expression c.args.source.now.tables c.in-If.c) x y c.in-Some.v.ty c.in-Some.v.bits.raw false c.requires.ends g
    c.as_slice-in-If.ensures.value c.in_ok-t-in-If.ensures.loads k.grows c.in-Some.ensures.constant (sym c.holds.ensures ∙ c.if-holds.false) e refl m)
    c.run-else-holds.ensures.ends c.run-else-holds.ensures.loads

pub run-returns-in_ok-ends-in-None-clause-loads : goal.run-returns-in_ok-ends-in-None-clause-loads
run-returns-in_ok-ends-in-None-clause-loads t c =
    let f = c.args.source.now in
    let old = stock_of c.args.store.now in
    let mid = stock_of c.tested.new.store in
    let x = view_statement c.args.source.now.tables c.in-If.x.value in
    let y = view_statement c.args.source.now.tables c.in-If.y.value in
    let e : view_statement c.args.source.now.tables c.args.whole.now ≡ st_if (view_expression c.args.source.now.tables c.in-If.c) x y = search rules in
    let g = test_as f old mid c.args.slots.now.items _ c.args.targets.now.items _ c.args.p (view_expression c.args.source.now.tables c.in-If.c) c.in_ok-t-in-If.t c.as_slice-in-If.ensures.value c.as_slice-in-If-2.ensures.value c.in_ok-t-in-If.ensures.test in
    both_loads_told f old mid (stock_of c.branches.new.store) _ _ _ c.args.slots.now.items _ c.as_slice-in-None.result.now c.args.targets.now.items c.as_slice-in-None-2.result.now c.args.p c.in_ok-t-in-If.t (view_statement c.args.source.now.tables c.args.whole.now) (view_expression c.args.source.now.tables c.in-If.c) x y c.requires.ends g
    c.as_slice-in-If.ensures.value c.in_ok-t-in-If.ensures.loads c.in_ok-ends-in-None.ensures.ends.grows c.in-None.ensures.operation e c.as_slice-in-None.ensures.value c.as_slice-in-None-2.ensures.value c.in_ok-ends-in-None.ensures.loads

pub run_all-loop-x-preserved : goal.run_all-loop-x-preserved
run_all-loop-x-preserved t c =
    doing_step c.args.source.now (stock_of c.args.store.now) (stock_of c.loop-x.store) (stock_of c.run.new.store) c.args.p c.args.slots.now.items c.loop-x.slots.items c.run.new.slots.items c.args.targets.now.items c.loop-x.targets.items c.run.new.targets.items
    c.args.loads.now.items c.loop-x.loads.items c.run.new.loads.items _ _ _ _ c.requires.ends.placed.path_below c.loop-x.invariant (all_rest c.args.source.now.tables c.args.all.now c.loop-x.x-index c.x-item.result c.loop-x-test.true c.x-item.is)
    c.in_ok-run.ensures.ends c.in_ok-run.ensures.loads
