use Rattle.std.proofs.Common.{◌≡◌, ℕ, ◌+◌, ◌≤◌, arith, List, [], ◌++◌, length, drop, map, rules, ap, sym, ◌∙◌}
use Rattle.std.proofs.lemmas.Result.{err_from_is_err_and}
use Rattle.std.proofs.lemmas.List.{length_push}
use Rattle.std.proofs.lemmas.Iterator.Adapters.{YieldsList-from_vec}
use Rattle.std.proofs.lemmas.Iterator.Consumers.{YieldsList-turn, YieldsList-end}
use Rattle.ix_tree.specs.declared.section.BlockText.{BlockText}
use Rattle.ix_tree.specs.View.{view_block}
use Rattle.ix_tree.specs.Rows.{view_whole}
use Rattle.ix_tree.specs.Unrolling.{alone_block, met, met_blocks}
use Rattle.ix_unroll.proofs.Going.{going_as, going_step, going_refuse}
use Rattle.ix_unroll.proofs.Mapped.{mapped_step, mapped_end, map_twice}
use Rattle.ix_unroll.proofs.Texts.{blocks_rest}
use Rattle.ix_unroll.proofs.text.unrolled_blocks.Goals as goal

pub returns-in_err-block-clause-refused : goal.returns-in_err-block-clause-refused
returns-in_err-block-clause-refused c =
    let p = err_from_is_err_and c.from_residual.result c.from_residual.ensures.1 in
    let xs = c.args.all in
    let turn = YieldsList-turn (YieldsList-from_vec {s = c.into_iter-block-iterator.result} xs (search rules) (search rules)) c.loop-block.yielded c.loop-block.block-iterator c.loop-block.yielded_by c.next.result c.next.new.self c.in-Some.block c.in-Some.is c.next.ensures.steps in
    let k = length c.loop-block.yielded in
    let x = c.in-Some.block in
    let rest = met_blocks (map view_block (drop (k + 1) xs)) in
    rw (p.1, p.2) (going_refuse _ (met (view_whole x.body) []) rest (going_as _ (met (view_whole x.body) [] ++ rest) (blocks_rest xs k x turn.0 turn.1) c.loop-block.invariant.marks) c.in_err-block.ensures.refused)

pub loop-block-preserved : goal.loop-block-preserved
loop-block-preserved c =
    let xs = c.args.all in
    let turn = YieldsList-turn (YieldsList-from_vec {s = c.into_iter-block-iterator.result} xs (search rules) (search rules)) c.loop-block.yielded c.loop-block.block-iterator c.loop-block.yielded_by c.next.result c.next.new.self c.in-Some.block c.in-Some.is c.next.ensures.steps in
    let k = length c.loop-block.yielded in
    let x = c.in-Some.block in
    let made = λ (y : BlockText). alone_block (view_block y) in
    let rest = met_blocks (map view_block (drop (k + 1) xs)) in
    let more = length_push c.loop-block.yielded x in
    rw more (record {
      tree =
          ap (λ (ys : List BlockText). map view_block ys ++ map made (drop (k + 1) xs)) c.in_ok-put.ensures
          ∙ mapped_step view_block made c.loop-block.out.items xs k x c.in_ok-block.block turn.0 turn.1 c.in_ok-block.ensures.tree
          ∙ c.loop-block.invariant.tree;
      marks = going_step (met (view_whole x.body) []) rest (going_as _ (met (view_whole x.body) [] ++ rest) (blocks_rest xs k x turn.0 turn.1) c.loop-block.invariant.marks) c.in_ok-block.ensures.passed;
    })

at_most : {n m : ℕ} → n ≡ m → m ≤ n
at_most e = omega arith

pub returns-clause-tree : goal.returns-clause-tree
returns-clause-tree c =
    let xs = c.args.all in
    let end = YieldsList-end (YieldsList-from_vec {s = c.into_iter-block-iterator.result} xs (search rules) (search rules)) c.loop-block.yielded c.loop-block.block-iterator c.loop-block.yielded_by c.next.result c.next.new.self c.in-None.is c.next.ensures.steps in
    let made = λ (y : BlockText). alone_block (view_block y) in
    ap (map view_block) c.from_vec.ensures
    ∙ mapped_end view_block made c.loop-block.out.items xs (length c.loop-block.yielded) (at_most end.1) c.loop-block.invariant.tree
    ∙ sym (map_twice view_block alone_block xs)
