use Rattle.ix_terms.specs.Stores.{stock_of}
use Rattle.ix_terms.proofs.Starting.{started}
use Rattle.ix_terms.proofs.effect.start.Goals as goal

pub returns : goal.returns
returns c =
    let r = started c.args.source.now (stock_of c.args.store.now) (stock_of c.start_slots.new.store) (stock_of c.start_targets.new.store) c.args.p c.in_ok-slots.slots.items c.in_ok-targets.targets.items _ _
    c.as_slice.ensures c.as_slice-2.ensures c.requires c.in_ok-slots.ensures c.in_ok-targets.ensures in
    record { grows = r.0; path = r.1; is = r.2; ends = r.3 }
