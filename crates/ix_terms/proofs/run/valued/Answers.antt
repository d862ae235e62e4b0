use Rattle.ix_mean.specs.View.{view_expression}
use Rattle.ix_terms.specs.Stores.{stock_of}
use Rattle.ix_terms.proofs.Makes.{ok_as}
use Rattle.ix_terms.proofs.Ending.{value_told}
use Rattle.ix_terms.proofs.Loading.{on_from, loads_grown}
use Rattle.ix_terms.proofs.run.valued.Goals as goal

pub returns-clause-value : goal.returns-clause-value
returns-clause-value c =
    ok_as c.cast_to.result _ _ (λ k h. value_told c.args.source.now (stock_of c.args.store.now) (stock_of c.term.new.store) (stock_of c.cast_to.new.store) c.args.slots.now c.args.p c.args.ty (view_expression c.args.source.now.tables c.args.e.now) c.in_ok-a.a k
    c.requires.placed c.in_ok-a.ensures.term h) c.cast_to.ensures

pub returns-clause-loads : goal.returns-clause-loads
returns-clause-loads c = on_from c.cast_to.result _ _ (λ k h. loads_grown _ _ _ _ _ h.grows c.in_ok-a.ensures.loads) c.cast_to.ensures
