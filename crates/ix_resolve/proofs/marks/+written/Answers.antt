use Rattle.std.proofs.Common.{◌≡◌, ◌∙◌, ap, sym, ◌+◌, ℕ, ◌++◌, List, Bool, drop}
use Rattle.ix_mean.specs.declared.resolved.ResolvedStmt.{ResolvedStmt}
use Rattle.ix_slots.specs.Spawned.{written_in, written_among}
use Rattle.ix_slots.proofs.Spawns.{written_block}
use Rattle.ix_behaviour.specs.Flags.{marked}
use Rattle.ix_resolve.proofs.FlagLists.{marked_both, written_rest}
use Rattle.ix_resolve.proofs.marks.+written.Goals as goal

pub mark_written-returns-in-Block : goal.mark_written-returns-in-Block
mark_written-returns-in-Block t c =
    let fs = c.args.flags.now in
    c.mark_all_written.ensures
    ∙ ap (λ (xs : List ResolvedStmt). marked fs (written_among xs)) c.as_slice.ensures
    ∙ sym (ap (λ (z : ResolvedStmt). marked fs (written_in z)) c.in-Block.is ∙ ap (marked fs) (written_block c.in-Block.all))

pub mark_written-returns-in-If : goal.mark_written-returns-in-If
mark_written-returns-in-If t c =
    let fs = c.args.flags.now in
    let x = c.in-If.x.value in
    let y = c.in-If.y.value in
    let e : written_in c.args.x.now ≡ written_in x ++ written_in y = ap written_in c.in-If.is in
    let b : marked fs (written_in x ++ written_in y) ≡ marked (marked fs (written_in x)) (written_in y) = marked_both fs (written_in x) (written_in y) in
    cc

pub mark_all_written-loop-x-preserved : goal.mark_all_written-loop-x-preserved
mark_all_written-loop-x-preserved t c =
    let xs = c.args.all.now in
    let k = c.loop-x.x-index in
    let x = c.x-item.result in
    let fs = c.loop-x.flags in
    let rest = written_among (drop (k + 1) xs) in
    ap (λ (z : List Bool). marked z rest) c.mark_written.ensures
    ∙ sym (marked_both fs (written_in x) rest)
    ∙ sym (ap (marked fs) (written_rest xs k x c.loop-x-test.true c.x-item.is))
    ∙ c.loop-x.invariant
