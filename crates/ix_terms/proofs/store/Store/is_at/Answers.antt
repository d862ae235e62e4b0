use Rattle.std.proofs.Common.{subst}
use Rattle.ix_terms.specs.Stores.{IsStore, stock_of}
use Rattle.ix_terms.proofs.Storing.{same_places}
use Rattle.ix_terms.proofs.store.Store.is_at.Goals as goal

pub returns : goal.returns
returns c =
    let s = subst IsStore c.self.view_is c.self.invariant.store in
    same_places (stock_of c.args.self.now) c.args.j c.args.k s.distinct c.requires.first c.requires.second
