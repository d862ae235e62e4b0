use Rattle.ix_terms.specs.Stores.{stock_of}
use Rattle.ix_terms.proofs.Starting.{starting_step}
use Rattle.ix_terms.proofs.effect.start_slots.Goals as goal

pub loop-ty-preserved : goal.loop-ty-preserved
loop-ty-preserved c =
    starting_step (stock_of c.args.store.now) (stock_of c.loop-ty.store) (stock_of c.put.new.self) c.args.types.now c.loop-ty.out.items _ c.loop-ty.ty-index c.in_ok-zero.zero c.ty-item.result c.loop-ty-test.true c.ty-item.is c.loop-ty.invariant
    c.in_ok-zero.ensures c.in_ok-push.ensures.items
