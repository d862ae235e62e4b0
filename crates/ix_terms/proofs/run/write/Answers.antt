use Rattle.ix_mean.specs.View.{view_expression}
use Rattle.ix_terms.specs.Stores.{stock_of}
use Rattle.ix_terms.proofs.Ending.{write_made}
use Rattle.ix_terms.proofs.RunLoads.{write_loads}
use Rattle.ix_terms.proofs.run.write.Goals as goal

pub returns-clause-ends : goal.returns-clause-ends
returns-clause-ends c =
    write_made c.args.source.now (stock_of c.args.store.now) (stock_of c.valued.new.store) (stock_of c.valued-2.new.store) (stock_of c.put_bit.new.store) c.args.slots.now c.args.targets.now.items c.args.p
    c.args.w.now.target c.args.w.now.ty c.u32_type.result (view_expression c.args.source.now.tables c.args.w.now.value) (view_expression c.args.source.now.tables c.args.w.now.address) c.in_ok-value.value c.in_ok-address.address c.in_ok-condition.condition
    c.requires.ends c.requires.typed c.u32_type.ensures c.in_ok-address.ensures.value c.in_ok-value.ensures.value c.in_ok-condition.ensures

pub returns-clause-loads : goal.returns-clause-loads
returns-clause-loads c =
    write_loads c.args.source.now (stock_of c.args.store.now) (stock_of c.valued.new.store) (stock_of c.valued-2.new.store) (stock_of c.put_bit.new.store) _ _ _ c.args.slots.now c.args.p
    (view_expression c.args.source.now.tables c.args.w.now.value) (view_expression c.args.source.now.tables c.args.w.now.address) c.requires.ends.placed c.in_ok-address.ensures.value.has.grows c.in_ok-value.ensures.value.has.grows c.in_ok-condition.ensures.grows
    c.in_ok-address.ensures.loads c.in_ok-value.ensures.loads
