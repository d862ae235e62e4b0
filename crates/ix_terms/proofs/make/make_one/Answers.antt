use Rattle.ix_terms.specs.Stores.{stock_of}
use Rattle.ix_terms.proofs.Makes.{one_folded}
use Rattle.ix_terms.proofs.make.make_one.Goals as goal

pub returns-in-Some : goal.returns-in-Some
returns-in-Some c =
    one_folded (stock_of c.args.store.now) (stock_of c.put_constant.new.store) c.args.kind c.args.ty c.args.a c.in-Some.v c.one.result c.put_constant.result
    c.in-Some.ensures.constant c.one.ensures.ty c.one.ensures.number c.put_constant.ensures
