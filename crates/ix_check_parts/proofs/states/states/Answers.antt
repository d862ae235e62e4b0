use Rattle.std.proofs.Common.{◌≡◌, ◌≤◌, ◌+◌, ◌∙◌, refl, sym, ap, subst, arith, rules, ℕ, List, [], ◌∷◌, map, drop, length, Result, Ok}
use Rattle.std.proofs.lemmas.List.{length_push}
use Rattle.std.proofs.lemmas.Iterator.Adapters.{YieldsList-from_vec}
use Rattle.std.proofs.lemmas.Iterator.Consumers.{YieldsList-turn, YieldsList-end}
use Rattle.ix_tree.specs.declared.typed.TypedState.{TypedState}
use Rattle.ix_tree.specs.Trees.{StateTree}
use Rattle.ix_tree.specs.TypedTrees.{TypedStateTree}
use Rattle.ix_tree.specs.View.{view_state}
use Rattle.ix_tree.specs.TypedView.{typed_state}
use Rattle.ix_typing.specs.Refusals.{Step, each}
use Rattle.ix_typing.specs.Texts.{judged_state}
use Rattle.ix_typing.proofs.Listed.{behind, mapped_rest, mapped_past, mapped_push, each_start, each_step, each_end}
use Rattle.ix_check_parts.specs.StateTelling.{items_of}
use Rattle.ix_check_parts.proofs.Passing.{each_refuses}
use Rattle.ix_check_parts.proofs.states.states.Goals as goal

pub loop-text-init : goal.loop-text-init
loop-text-init c =
    let r = each (judged_state c.args.state.now) (map view_state c.args.all) 0 in
    let P : List TypedStateTree → Type 0 = λ o. r ≡ behind o r in
    record { number = refl; judged = subst P (sym (ap (map typed_state) c.new-out.ensures.items)) (each_start r) }

pub returns-in-Err : goal.returns-in-Err
returns-in-Err c =
    let xs = c.args.all in
    let turn = YieldsList-turn (YieldsList-from_vec {s = c.into_iter-text-iterator.result} xs (search rules) (search rules)) c.loop-text.yielded c.loop-text.text-iterator c.loop-text.yielded_by c.next.result c.next.new.self c.in-Some.text c.in-Some.is c.next.ensures.steps in
    let k = length c.loop-text.yielded in
    let x = c.in-Some.text in
    each_refuses c.in-Err.error (judged_state c.args.state.now) _ _ (map view_state (drop (k + 1) xs)) (map typed_state c.loop-text.out.items) c.loop-text.k (view_state x)
    c.loop-text.invariant.judged (mapped_rest view_state xs k x turn.0 turn.1) c.in-Err.ensures

pub loop-text-preserved : goal.loop-text-preserved
loop-text-preserved c =
    let xs = c.args.all in
    let turn = YieldsList-turn (YieldsList-from_vec {s = c.into_iter-text-iterator.result} xs (search rules) (search rules)) c.loop-text.yielded c.loop-text.text-iterator c.loop-text.yielded_by c.next.result c.next.new.self c.in-Some.text c.in-Some.is c.next.ensures.steps in
    let k = length c.loop-text.yielded in
    let x = c.in-Some.text in
    let more = length_push c.loop-text.yielded x in
    rw more (record {
      number = ap (λ (n : ℕ). n + 1) c.loop-text.invariant.number;
      judged =
          each_step (judged_state c.args.state.now) _ _ (map view_state (drop (k + 1) xs)) (map typed_state c.loop-text.out.items) _ (typed_state c.in-Ok.typed) c.loop-text.k (c.loop-text.k + 1) (view_state x)
          c.loop-text.invariant.judged (mapped_rest view_state xs k x turn.0 turn.1) c.in-Ok.ensures (mapped_push typed_state c.loop-text.out.items c.put.new.out.items c.in-Ok.typed c.in-Ok-put.ensures);
    })

at_most : {n m : ℕ} → n ≡ m → m ≤ n
at_most e = omega arith

pub returns : goal.returns
returns c =
    let xs = c.args.all in
    let end = YieldsList-end (YieldsList-from_vec {s = c.into_iter-text-iterator.result} xs (search rules) (search rules)) c.loop-text.yielded c.loop-text.text-iterator c.loop-text.yielded_by c.next.result c.next.new.self c.in-None.is c.next.ensures.steps in
    let out = map typed_state c.loop-text.out.items in
    let f = judged_state c.args.state.now in
    let whole = each_end f _ out c.loop-text.k (c.loop-text.invariant.judged ∙ ap (λ (zs : List StateTree). behind out (each f zs c.loop-text.k)) (mapped_past view_state xs (length c.loop-text.yielded) (at_most end.1))) in
    ap items_of whole ∙ ap (λ (ts : List TypedState). Ok (map typed_state ts)) (sym c.from_vec.ensures)
