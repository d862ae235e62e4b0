use Rattle.std.proofs.Common.{◌+◌, ◌∙◌, subst, rules, List, map, drop, length, Result}
use Rattle.std.proofs.lemmas.List.{length_push}
use Rattle.std.proofs.lemmas.Iterator.Adapters.{YieldsList-from_vec}
use Rattle.std.proofs.lemmas.Iterator.Consumers.{YieldsList-turn}
use Rattle.ix_tree.specs.declared.typed.TypedSection.{TypedSection}
use Rattle.ix_tree.specs.View.{view_section}
use Rattle.ix_tree.specs.TypedView.{typed_section}
use Rattle.ix_typing.specs.declared.role.Named.{Named}
use Rattle.ix_typing.specs.Texts.{global_state, judged_section}
use Rattle.ix_typing.proofs.Listed.{mapped_rest, mapped_push, each_step}
use Rattle.ix_check_parts.proofs.Passing.{each_refuses}
use Rattle.ix_check.specs.Telling.{TellsSection}
use Rattle.ix_check.proofs.text.sections.Goals as goal

pub returns-in-Err : goal.returns-in-Err
returns-in-Err c =
    let xs = c.args.all in
    let turn = YieldsList-turn (YieldsList-from_vec {s = c.into_iter-text-iterator.result} xs (search rules) (search rules)) c.loop-text.yielded c.loop-text.text-iterator c.loop-text.yielded_by c.next.result c.next.new.self c.in-Some.text c.in-Some.is c.next.ensures.steps in
    let k = length c.loop-text.yielded in
    let x = c.in-Some.text in
    let f = judged_section (global_state c.args.names) in
    let P : List Named → Type 0 = λ z. TellsSection c.section.result c.section.new.front (judged_section (global_state z) (view_section x) c.loop-text.front) in
    let Q : Result TypedSection _ → Type 0 = λ z. TellsSection z c.section.new.front (f (view_section x) c.loop-text.front) in
    each_refuses c.in-Err.error f _ _ (map view_section (drop (k + 1) xs)) (map typed_section c.loop-text.out.items) c.loop-text.front (view_section x)
    c.loop-text.invariant.told (mapped_rest view_section xs k x turn.0 turn.1) (subst Q c.in-Err.is (subst P c.loop-text.invariant.kept c.section.ensures.told))

pub loop-text-preserved : goal.loop-text-preserved
loop-text-preserved c =
    let xs = c.args.all in
    let turn = YieldsList-turn (YieldsList-from_vec {s = c.into_iter-text-iterator.result} xs (search rules) (search rules)) c.loop-text.yielded c.loop-text.text-iterator c.loop-text.yielded_by c.next.result c.next.new.self c.in-Some.text c.in-Some.is c.next.ensures.steps in
    let k = length c.loop-text.yielded in
    let x = c.in-Some.text in
    let more = length_push c.loop-text.yielded x in
    let f = judged_section (global_state c.args.names) in
    let P : List Named → Type 0 = λ z. TellsSection c.section.result c.section.new.front (judged_section (global_state z) (view_section x) c.loop-text.front) in
    let Q : Result TypedSection _ → Type 0 = λ z. TellsSection z c.section.new.front (f (view_section x) c.loop-text.front) in
    rw more (record {
      told =
          each_step f _ _ (map view_section (drop (k + 1) xs)) (map typed_section c.loop-text.out.items) _ (typed_section c.in-Ok.typed) c.loop-text.front c.section.new.front (view_section x)
          c.loop-text.invariant.told (mapped_rest view_section xs k x turn.0 turn.1) (subst Q c.in-Ok.is (subst P c.loop-text.invariant.kept c.section.ensures.told))
          (mapped_push typed_section c.loop-text.out.items c.put.new.out.items c.in-Ok.typed c.in-Ok-put.ensures);
      kept = c.in-Ok.ensures.kept ∙ c.loop-text.invariant.kept;
    })
