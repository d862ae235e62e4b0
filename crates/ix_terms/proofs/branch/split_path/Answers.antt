use Rattle.ix_terms.specs.Stores.{stock_of}
use Rattle.ix_terms.proofs.Makes.{term_grown, grows_on}
use Rattle.ix_terms.proofs.Ending.{place_term, test_on, path_term, turned_term, paths_made}
use Rattle.ix_terms.proofs.branch.split_path.Goals as goal

pub negated-requires : goal.negated-requires
negated-requires c = term_grown (stock_of c.args.store.now) _ c.args.t c.in_ok-first.ensures.grows (place_term c.args.source.now (stock_of c.args.store.now) c.args.t c.requires.test)

pub along-requires-2-clause-path : goal.along-requires-2-clause-path
along-requires-2-clause-path c =
    term_grown (stock_of c.args.store.now) _ c.args.p (grows_on (stock_of c.args.store.now) _ _ c.in_ok-first.ensures.grows c.in_ok-turned.ensures.grows)
    (path_term c.args.source.now (stock_of c.args.store.now) c.args.slots.now c.args.targets.now c.args.p c.requires.ends)

pub along-requires-2-clause-branch : goal.along-requires-2-clause-branch
along-requires-2-clause-branch c =
    turned_term c.args.source.now (stock_of c.along.new.store) _ c.args.t _ (test_on c.args.source.now (stock_of c.args.store.now) (stock_of c.along.new.store) c.args.t c.in_ok-first.ensures.grows c.requires.test) c.in_ok-turned.ensures

pub returns : goal.returns
returns c =
    paths_made c.args.source.now (stock_of c.args.store.now) (stock_of c.along.new.store) (stock_of c.negated.new.store) (stock_of c.along-2.new.store) c.args.slots.now c.args.targets.now c.args.p c.args.t
    c.in_ok-first.first c.in_ok-turned.turned c.in_ok-second.second c.requires.ends c.requires.test c.in_ok-first.ensures c.in_ok-turned.ensures c.in_ok-second.ensures
