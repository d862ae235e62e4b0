use Rattle.std.proofs.Common.{refl, arith, get_or}
use Rattle.ix_terms.specs.Stores.{stock_of}
use Rattle.ix_terms.proofs.Merged.{merging_step}
use Rattle.ix_terms.proofs.slots.merge_slots.Goals as goal

pub loop-k-preserved : goal.loop-k-preserved
loop-k-preserved c =
    merging_step (stock_of c.args.store.now) (stock_of c.loop-k.store) (stock_of c.merge.new.store) c.args.c c.args.xs.now c.args.ys.now c.loop-k.out.items _ c.loop-k.k
    (get_or c.args.xs.now c.loop-k.k 0) (get_or c.args.ys.now c.loop-k.k 0) c.in_ok-merged.merged c.requires.condition.within c.requires.first c.requires.second
    (omega arith) (omega arith) refl refl c.loop-k.invariant c.in_ok-merged.ensures c.in_ok-push.ensures.items
