use Rattle.ix_terms.specs.Stores.{stock_of}
use Rattle.ix_terms.proofs.Makes.{term_grown, grows_on}
use Rattle.ix_terms.proofs.Entries.{entry_made}
use Rattle.ix_terms.proofs.targets.merge_entry.Goals as goal

pub given-requires-clause-first : goal.given-requires-clause-first
given-requires-clause-first c = term_grown (stock_of c.args.store.now) _ c.args.x.value c.in_ok-condition.ensures.grows c.requires.first.value

pub given-requires-clause-second : goal.given-requires-clause-second
given-requires-clause-second c = term_grown (stock_of c.args.store.now) _ c.args.y.value c.in_ok-condition.ensures.grows c.requires.second.value

pub given-requires-2-clause-first : goal.given-requires-2-clause-first
given-requires-2-clause-first c =
    term_grown (stock_of c.args.store.now) _ c.args.x.address (grows_on (stock_of c.args.store.now) _ _ c.in_ok-condition.ensures.grows c.in_ok-value.ensures.grows) c.requires.first.address

pub given-requires-2-clause-second : goal.given-requires-2-clause-second
given-requires-2-clause-second c =
    term_grown (stock_of c.args.store.now) _ c.args.y.address (grows_on (stock_of c.args.store.now) _ _ c.in_ok-condition.ensures.grows c.in_ok-value.ensures.grows) c.requires.second.address

pub returns : goal.returns
returns c =
    entry_made (stock_of c.args.store.now) (stock_of c.merge_condition.new.store) (stock_of c.given.new.store) (stock_of c.given-2.new.store) c.args.c c.args.x c.args.y c.is_bit-none_first.result c.is_bit-none_second.result
    c.in_ok-condition.condition c.in_ok-value.value c.in_ok-address.address c.requires.condition.within c.requires.first c.requires.second c.is_bit-none_first.ensures c.is_bit-none_second.ensures
    c.in_ok-condition.ensures c.in_ok-value.ensures c.in_ok-address.ensures
