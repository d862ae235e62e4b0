use Rattle.std.proofs.Common.{get_or}
use Rattle.std.proofs.lemmas.List.{get_or_default}
use Rattle.ix_terms.specs.declared.targets.Target.{Target}
use Rattle.ix_terms.specs.Stores.{stock_of}
use Rattle.ix_flow.proofs.Rooting.{rooting_step}
use Rattle.ix_flow.proofs.flow.roots_of.Goals as goal

pub loop-number-preserved : goal.loop-number-preserved
loop-number-preserved c =
    let d : Target = record { condition = 0; value = 0; address = 0 } in
    let t = get_or c.args.targets.now c.loop-number.number d in
    rooting_step (stock_of c.args.store.now) (stock_of c.loop-number.store) (stock_of c.root.new.store) c.args.targets.now c.args.roots.now.items c.loop-number.roots.items c.root.new.roots.items c.loop-number.number t
    c.requires.below c.loop-number-test.true (get_or_default c.args.targets.now c.loop-number.number d t c.loop-number-test.true) c.loop-number.invariant c.in_ok-root.ensures
