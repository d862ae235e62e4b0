use Rattle.std.proofs.Common.{◌≡◌, ◌≤◌, ◌+◌, ◌∙◌, refl, sym, ap, subst, arith, rules, ℕ, List, map, drop, length, Result, Ok}
use Rattle.std.proofs.lemmas.List.{length_push}
use Rattle.std.proofs.lemmas.Iterator.Adapters.{YieldsList-from_vec}
use Rattle.std.proofs.lemmas.Iterator.Consumers.{YieldsList-turn, YieldsList-end}
use Rattle.ix_tree.specs.declared.typed.TypedInstr.{TypedInstr}
use Rattle.ix_tree.specs.Trees.{InstrTree}
use Rattle.ix_tree.specs.TypedTrees.{TypedInstrTree}
use Rattle.ix_tree.specs.View.{view_instr}
use Rattle.ix_tree.specs.TypedView.{typed_instr}
use Rattle.ix_typing.specs.declared.role.Named.{Named}
use Rattle.ix_typing.specs.Refusals.{each}
use Rattle.ix_typing.specs.Texts.{judged_instr}
use Rattle.ix_typing.proofs.Listed.{behind, mapped_rest, mapped_past, mapped_push, each_start, each_step, each_end}
use Rattle.ix_check_parts.proofs.Passing.{each_refuses}
use Rattle.ix_check.specs.Telling.{TellsInstr, TellsInstrs}
use Rattle.ix_check.proofs.instruction.instructions.Goals as goal

pub loop-text-init : goal.loop-text-init
loop-text-init c =
    let r = each (judged_instr c.args.state.now.names) (map view_instr c.args.all) c.args.seen.now in
    let P : List TypedInstrTree → Type 0 = λ o. r ≡ behind o r in
    record { told = subst P (sym (ap (map typed_instr) c.new-out.ensures.items)) (each_start r); kept = refl }

pub returns-in-Err-clause-told : goal.returns-in-Err-clause-told
returns-in-Err-clause-told c =
    let xs = c.args.all in
    let turn = YieldsList-turn (YieldsList-from_vec {s = c.into_iter-text-iterator.result} xs (search rules) (search rules)) c.loop-text.yielded c.loop-text.text-iterator c.loop-text.yielded_by c.next.result c.next.new.self c.in-Some.text c.in-Some.is c.next.ensures.steps in
    let k = length c.loop-text.yielded in
    let x = c.in-Some.text in
    let f = judged_instr c.args.state.now.names in
    let P : List Named → Type 0 = λ z. TellsInstr c.instruction.result c.instruction.new.seen (judged_instr z (view_instr x) c.loop-text.seen) in
    let Q : Result TypedInstr _ → Type 0 = λ z. TellsInstr z c.instruction.new.seen (f (view_instr x) c.loop-text.seen) in
    each_refuses c.in-Err.error f _ _ (map view_instr (drop (k + 1) xs)) (map typed_instr c.loop-text.out.items) c.loop-text.seen (view_instr x)
    c.loop-text.invariant.told (mapped_rest view_instr xs k x turn.0 turn.1) (subst Q c.in-Err.is (subst P c.loop-text.invariant.kept c.instruction.ensures.told))

pub loop-text-preserved : goal.loop-text-preserved
loop-text-preserved c =
    let xs = c.args.all in
    let turn = YieldsList-turn (YieldsList-from_vec {s = c.into_iter-text-iterator.result} xs (search rules) (search rules)) c.loop-text.yielded c.loop-text.text-iterator c.loop-text.yielded_by c.next.result c.next.new.self c.in-Some.text c.in-Some.is c.next.ensures.steps in
    let k = length c.loop-text.yielded in
    let x = c.in-Some.text in
    let more = length_push c.loop-text.yielded x in
    let f = judged_instr c.args.state.now.names in
    let P : List Named → Type 0 = λ z. TellsInstr c.instruction.result c.instruction.new.seen (judged_instr z (view_instr x) c.loop-text.seen) in
    let Q : Result TypedInstr _ → Type 0 = λ z. TellsInstr z c.instruction.new.seen (f (view_instr x) c.loop-text.seen) in
    rw more (record {
      told =
          each_step f _ _ (map view_instr (drop (k + 1) xs)) (map typed_instr c.loop-text.out.items) _ (typed_instr c.in-Ok.typed) c.loop-text.seen c.instruction.new.seen (view_instr x)
          c.loop-text.invariant.told (mapped_rest view_instr xs k x turn.0 turn.1) (subst Q c.in-Ok.is (subst P c.loop-text.invariant.kept c.instruction.ensures.told))
          (mapped_push typed_instr c.loop-text.out.items c.put.new.out.items c.in-Ok.typed c.in-Ok-put.ensures);
      kept = c.in-Ok.ensures.kept ∙ c.loop-text.invariant.kept;
    })

at_most : {n m : ℕ} → n ≡ m → m ≤ n
at_most e = omega arith

pub returns-clause-told : goal.returns-clause-told
returns-clause-told c =
    let xs = c.args.all in
    let end = YieldsList-end (YieldsList-from_vec {s = c.into_iter-text-iterator.result} xs (search rules) (search rules)) c.loop-text.yielded c.loop-text.text-iterator c.loop-text.yielded_by c.next.result c.next.new.self c.in-None.is c.next.ensures.steps in
    let out = map typed_instr c.loop-text.out.items in
    let f = judged_instr c.args.state.now.names in
    let whole = each_end f _ out c.loop-text.seen (c.loop-text.invariant.told ∙ ap (λ (zs : List InstrTree). behind out (each f zs c.loop-text.seen)) (mapped_past view_instr xs (length c.loop-text.yielded) (at_most end.1))) in
    let P : List TypedInstr → Type 0 = λ ts. TellsInstrs (Ok ts) c.loop-text.seen (each f (map view_instr xs) c.args.seen.now) in
    subst P (sym c.from_vec.ensures) whole
