use Rattle.ix_mean.specs.View.{view_expression}
use Rattle.ix_terms.specs.Stores.{stock_of}
use Rattle.ix_terms.proofs.Makes.{ok_as}
use Rattle.ix_terms.proofs.Ending.{test_made}
use Rattle.ix_terms.proofs.Loading.{on_from, loads_grown}
use Rattle.ix_terms.proofs.run.tested.Goals as goal

pub returns-clause-test : goal.returns-clause-test
returns-clause-test c =
    ok_as c.condition.result _ _ (λ k h. test_made c.args.source.now (stock_of c.args.store.now) (stock_of c.term.new.store) (stock_of c.condition.new.store) c.args.slots.now c.args.targets.now c.args.p c.in_ok-a.a k
    (view_expression c.args.source.now.tables c.args.c.now) c.requires.ends c.requires.typed c.in_ok-a.ensures.term h) c.condition.ensures

pub returns-clause-loads : goal.returns-clause-loads
returns-clause-loads c = on_from c.condition.result _ _ (λ k h. loads_grown _ _ _ _ _ h.grows c.in_ok-a.ensures.loads) c.condition.ensures
