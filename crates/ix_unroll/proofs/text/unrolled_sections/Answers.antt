use Rattle.std.proofs.Common.{◌≡◌, ℕ, ◌+◌, ◌≤◌, arith, List, ◌++◌, length, drop, map, rules, ap, sym, ◌∙◌}
use Rattle.std.proofs.lemmas.Result.{err_from_is_err_and}
use Rattle.std.proofs.lemmas.List.{length_push}
use Rattle.std.proofs.lemmas.Iterator.Adapters.{YieldsList-from_vec}
use Rattle.std.proofs.lemmas.Iterator.Consumers.{YieldsList-turn, YieldsList-end}
use Rattle.ix_tree.specs.declared.section.Section.{Section}
use Rattle.ix_tree.specs.View.{view_section}
use Rattle.ix_tree.specs.Unrolling.{alone_section, met_kind, met_sections}
use Rattle.ix_unroll.proofs.Going.{going_as, going_step, going_refuse}
use Rattle.ix_unroll.proofs.Mapped.{mapped_step, mapped_end, map_twice}
use Rattle.ix_unroll.proofs.Texts.{sections_rest}
use Rattle.ix_unroll.proofs.text.unrolled_sections.Goals as goal

pub returns-in_err-section-clause-refused : goal.returns-in_err-section-clause-refused
returns-in_err-section-clause-refused c =
    let p = err_from_is_err_and c.from_residual.result c.from_residual.ensures.1 in
    let xs = c.args.sections in
    let turn = YieldsList-turn (YieldsList-from_vec {s = c.into_iter-section-iterator.result} xs (search rules) (search rules)) c.loop-section.yielded c.loop-section.section-iterator c.loop-section.yielded_by c.next.result c.next.new.self c.in-Some.section c.in-Some.is c.next.ensures.steps in
    let k = length c.loop-section.yielded in
    let x = c.in-Some.section in
    let rest = met_sections (map view_section (drop (k + 1) xs)) in
    rw (p.1, p.2) (going_refuse _ (met_kind (view_section x).kind) rest (going_as _ (met_kind (view_section x).kind ++ rest) (sections_rest xs k x turn.0 turn.1) c.loop-section.invariant.marks) c.in_err-section.ensures.refused)

pub loop-section-preserved : goal.loop-section-preserved
loop-section-preserved c =
    let xs = c.args.sections in
    let turn = YieldsList-turn (YieldsList-from_vec {s = c.into_iter-section-iterator.result} xs (search rules) (search rules)) c.loop-section.yielded c.loop-section.section-iterator c.loop-section.yielded_by c.next.result c.next.new.self c.in-Some.section c.in-Some.is c.next.ensures.steps in
    let k = length c.loop-section.yielded in
    let x = c.in-Some.section in
    let made = λ (y : Section). alone_section (view_section y) in
    let rest = met_sections (map view_section (drop (k + 1) xs)) in
    let more = length_push c.loop-section.yielded x in
    rw more (record {
      tree =
          ap (λ (ys : List Section). map view_section ys ++ map made (drop (k + 1) xs)) c.in_ok-put.ensures
          ∙ mapped_step view_section made c.loop-section.out.items xs k x c.in_ok-section.section turn.0 turn.1 c.in_ok-section.ensures.tree
          ∙ c.loop-section.invariant.tree;
      marks = going_step (met_kind (view_section x).kind) rest (going_as _ (met_kind (view_section x).kind ++ rest) (sections_rest xs k x turn.0 turn.1) c.loop-section.invariant.marks) c.in_ok-section.ensures.passed;
    })

at_most : {n m : ℕ} → n ≡ m → m ≤ n
at_most e = omega arith

pub returns-clause-tree : goal.returns-clause-tree
returns-clause-tree c =
    let xs = c.args.sections in
    let end = YieldsList-end (YieldsList-from_vec {s = c.into_iter-section-iterator.result} xs (search rules) (search rules)) c.loop-section.yielded c.loop-section.section-iterator c.loop-section.yielded_by c.next.result c.next.new.self c.in-None.is c.next.ensures.steps in
    let made = λ (y : Section). alone_section (view_section y) in
    ap (map view_section) c.from_vec.ensures
    ∙ mapped_end view_section made c.loop-section.out.items xs (length c.loop-section.yielded) (at_most end.1) c.loop-section.invariant.tree
    ∙ sym (map_twice view_section alone_section xs)
