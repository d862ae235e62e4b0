use Rattle.std.proofs.Common.{◌≡◌, ◌∙◌, ap, sym, ◌+◌, ℕ, ◌++◌, List, Bool, drop}
use Rattle.ix_mean.specs.declared.resolved.ResolvedStmt.{ResolvedStmt}
use Rattle.ix_slots.specs.Spawned.{spawned_in, spawned_among}
use Rattle.ix_slots.proofs.Spawns.{spawned_block}
use Rattle.ix_behaviour.specs.Flags.{marked}
use Rattle.ix_resolve.proofs.FlagLists.{marked_both, spawned_rest}
use Rattle.ix_resolve.proofs.marks.+spawned.Goals as goal

pub mark_spawned-returns-in-Block : goal.mark_spawned-returns-in-Block
mark_spawned-returns-in-Block t c =
    let fs = c.args.flags.now in
    c.mark_all_spawned.ensures
    ∙ ap (λ (xs : List ResolvedStmt). marked fs (spawned_among xs)) c.as_slice.ensures
    ∙ sym (ap (λ (z : ResolvedStmt). marked fs (spawned_in z)) c.in-Block.is ∙ ap (marked fs) (spawned_block c.in-Block.all))

pub mark_spawned-returns-in-If : goal.mark_spawned-returns-in-If
mark_spawned-returns-in-If t c =
    let fs = c.args.flags.now in
    let x = c.in-If.x.value in
    let y = c.in-If.y.value in
    let e : spawned_in c.args.x.now ≡ spawned_in x ++ spawned_in y = ap spawned_in c.in-If.is in
    let b : marked fs (spawned_in x ++ spawned_in y) ≡ marked (marked fs (spawned_in x)) (spawned_in y) = marked_both fs (spawned_in x) (spawned_in y) in
    cc

pub mark_all_spawned-loop-x-preserved : goal.mark_all_spawned-loop-x-preserved
mark_all_spawned-loop-x-preserved t c =
    let xs = c.args.all.now in
    let k = c.loop-x.x-index in
    let x = c.x-item.result in
    let fs = c.loop-x.flags in
    let rest = spawned_among (drop (k + 1) xs) in
    ap (λ (z : List Bool). marked z rest) c.mark_spawned.ensures
    ∙ sym (marked_both fs (spawned_in x) rest)
    ∙ sym (ap (marked fs) (spawned_rest xs k x c.loop-x-test.true c.x-item.is))
    ∙ c.loop-x.invariant
