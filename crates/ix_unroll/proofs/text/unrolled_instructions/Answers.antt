use Rattle.std.proofs.Common.{◌≡◌, ℕ, ◌+◌, ◌≤◌, arith, List, [], ◌++◌, length, drop, map, rules, ap, sym, ◌∙◌}
use Rattle.std.proofs.lemmas.Result.{err_from_is_err_and}
use Rattle.std.proofs.lemmas.List.{length_push}
use Rattle.std.proofs.lemmas.Iterator.Adapters.{YieldsList-from_vec}
use Rattle.std.proofs.lemmas.Iterator.Consumers.{YieldsList-turn, YieldsList-end}
use Rattle.ix_tree.specs.declared.section.Instr.{Instr}
use Rattle.ix_tree.specs.View.{view_instr}
use Rattle.ix_tree.specs.Rows.{view_whole}
use Rattle.ix_tree.specs.Unrolling.{alone_instr, met, met_instrs}
use Rattle.ix_unroll.proofs.Going.{going_as, going_step, going_refuse}
use Rattle.ix_unroll.proofs.Mapped.{mapped_step, mapped_end, map_twice}
use Rattle.ix_unroll.proofs.Texts.{instrs_rest}
use Rattle.ix_unroll.proofs.text.unrolled_instructions.Goals as goal

pub returns-in_err-instr-clause-refused : goal.returns-in_err-instr-clause-refused
returns-in_err-instr-clause-refused c =
    let p = err_from_is_err_and c.from_residual.result c.from_residual.ensures.1 in
    let xs = c.args.all in
    let turn = YieldsList-turn (YieldsList-from_vec {s = c.into_iter-instr-iterator.result} xs (search rules) (search rules)) c.loop-instr.yielded c.loop-instr.instr-iterator c.loop-instr.yielded_by c.next.result c.next.new.self c.in-Some.instr c.in-Some.is c.next.ensures.steps in
    let k = length c.loop-instr.yielded in
    let x = c.in-Some.instr in
    let rest = met_instrs (map view_instr (drop (k + 1) xs)) in
    rw (p.1, p.2) (going_refuse _ (met (view_whole x.body) []) rest (going_as _ (met (view_whole x.body) [] ++ rest) (instrs_rest xs k x turn.0 turn.1) c.loop-instr.invariant.marks) c.in_err-instr.ensures.refused)

pub loop-instr-preserved : goal.loop-instr-preserved
loop-instr-preserved c =
    let xs = c.args.all in
    let turn = YieldsList-turn (YieldsList-from_vec {s = c.into_iter-instr-iterator.result} xs (search rules) (search rules)) c.loop-instr.yielded c.loop-instr.instr-iterator c.loop-instr.yielded_by c.next.result c.next.new.self c.in-Some.instr c.in-Some.is c.next.ensures.steps in
    let k = length c.loop-instr.yielded in
    let x = c.in-Some.instr in
    let made = λ (y : Instr). alone_instr (view_instr y) in
    let rest = met_instrs (map view_instr (drop (k + 1) xs)) in
    let more = length_push c.loop-instr.yielded x in
    rw more (record {
      tree =
          ap (λ (ys : List Instr). map view_instr ys ++ map made (drop (k + 1) xs)) c.in_ok-put.ensures
          ∙ mapped_step view_instr made c.loop-instr.out.items xs k x c.in_ok-instr.instr turn.0 turn.1 c.in_ok-instr.ensures.tree
          ∙ c.loop-instr.invariant.tree;
      marks = going_step (met (view_whole x.body) []) rest (going_as _ (met (view_whole x.body) [] ++ rest) (instrs_rest xs k x turn.0 turn.1) c.loop-instr.invariant.marks) c.in_ok-instr.ensures.passed;
    })

at_most : {n m : ℕ} → n ≡ m → m ≤ n
at_most e = omega arith

pub returns-clause-tree : goal.returns-clause-tree
returns-clause-tree c =
    let xs = c.args.all in
    let end = YieldsList-end (YieldsList-from_vec {s = c.into_iter-instr-iterator.result} xs (search rules) (search rules)) c.loop-instr.yielded c.loop-instr.instr-iterator c.loop-instr.yielded_by c.next.result c.next.new.self c.in-None.is c.next.ensures.steps in
    let made = λ (y : Instr). alone_instr (view_instr y) in
    ap (map view_instr) c.from_vec.ensures
    ∙ mapped_end view_instr made c.loop-instr.out.items xs (length c.loop-instr.yielded) (at_most end.1) c.loop-instr.invariant.tree
    ∙ sym (map_twice view_instr alone_instr xs)
