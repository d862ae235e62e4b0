use Rattle.ix_terms.specs.Stores.{stock_of}
use Rattle.ix_terms.proofs.Makes.{ok_as}
use Rattle.ix_terms.proofs.Placing.{load_made}
use Rattle.ix_terms.proofs.term.load.Goals as goal

pub returns : goal.returns
returns c =
    ok_as c.put.result _ _ (λ k h. load_made (stock_of c.args.store.now) (stock_of c.cast_to.new.store) (stock_of c.put.new.self) c.args.ty c.u32_type.result c.args.a c.in_ok-address.address c.args.p k c.in_ok-address.ensures c.requires.path c.u32_type.ensures h) c.put.ensures
