use Rattle.ix_terms.specs.Stores.{stock_of}
use Rattle.ix_terms.proofs.Makes.{ok_as, term_grown}
use Rattle.ix_terms.proofs.Placing.{condition_term, choice_made}
use Rattle.ix_terms.proofs.term.choose.Goals as goal

pub make_mux-requires-clause-condition : goal.make_mux-requires-clause-condition
make_mux-requires-clause-condition c = condition_term (stock_of c.args.store.now) _ c.args.c _ c.requires.condition c.in_ok-test.ensures

pub make_mux-requires-clause-second : goal.make_mux-requires-clause-second
make_mux-requires-clause-second c = term_grown (stock_of c.args.store.now) _ c.args.b c.in_ok-test.ensures.grows c.requires.second

pub returns : goal.returns
returns c =
    ok_as c.make_mux.result _ _ (λ k h. choice_made (stock_of c.args.store.now) (stock_of c.condition.new.store) (stock_of c.make_mux.new.store) c.args.ty c.args.c c.args.a c.args.b c.in_ok-test.test k c.in_ok-test.ensures
    c.requires.first.within c.requires.second.within h) c.make_mux.ensures
