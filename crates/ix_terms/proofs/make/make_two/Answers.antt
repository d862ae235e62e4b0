use Rattle.ix_terms.specs.Stores.{stock_of}
use Rattle.ix_terms.proofs.Makes.{two_folded}
use Rattle.ix_terms.proofs.make.make_two.Goals as goal

pub returns-in-Some-constant_at : goal.returns-in-Some-constant_at
returns-in-Some-constant_at c =
    two_folded (stock_of c.args.store.now) (stock_of c.put_constant.new.store) c.args.op c.args.ty c.args.a c.args.b c.in-Some.x c.in-Some-constant_at.y c.two.result c.put_constant.result
    c.in-Some.ensures.constant c.in-Some-constant_at.ensures.constant c.two.ensures.ty c.two.ensures.number c.put_constant.ensures
