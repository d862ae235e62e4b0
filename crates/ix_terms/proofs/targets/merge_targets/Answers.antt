use Rattle.ix_terms.specs.Stores.{stock_of}
use Rattle.ix_terms.specs.declared.targets.Target.{Target}
use Rattle.std.proofs.Common.{refl, arith, get_or}
use Rattle.ix_terms.proofs.Entries.{all_step}
use Rattle.ix_terms.proofs.targets.merge_targets.Goals as goal

pub loop-k-preserved : goal.loop-k-preserved
loop-k-preserved c =
    let d : Target = record { condition = 0; value = 0; address = 0 } in
    all_step (stock_of c.args.store.now) (stock_of c.loop-k.store) (stock_of c.merge_entry.new.store) c.args.c c.args.xs.now c.args.ys.now c.loop-k.out.items _ c.loop-k.k d (get_or c.args.xs.now c.loop-k.k d) (get_or c.args.ys.now c.loop-k.k d) c.in_ok-merged.merged
    c.requires.condition.within c.requires.first c.requires.second (omega arith) (omega arith) refl refl c.loop-k.invariant c.in_ok-merged.ensures c.in_ok-push.ensures.items
