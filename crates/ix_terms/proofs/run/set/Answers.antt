use Rattle.std.proofs.Common.{List, ℕ, subst}
use Rattle.ix_mean.specs.View.{view_expression}
use Rattle.ix_terms.specs.Stores.{stock_of}
use Rattle.ix_terms.specs.Places.{HasTerm}
use Rattle.ix_terms.proofs.Ending.{slot_set}
use Rattle.ix_terms.proofs.RunLoads.{set_loads}
use Rattle.ix_terms.proofs.run.set.Goals as goal

pub returns-clause-ends : goal.returns-clause-ends
returns-clause-ends c =
    let f = c.args.source.now in
    let old = stock_of c.args.store.now in
    let mid = stock_of c.term.new.store in
    let e = view_expression f.tables c.args.e.now in
    let P : List ℕ → Type 0 = λ xs. HasTerm f old mid xs c.args.p e c.in_ok-a.a in
    slot_set f old mid (stock_of c.cast_to.new.store) c.args.slots.now.items c.args.targets.now c.args.p c.args.k c.in_ok-a.a c.in_ok-v.v c.args.ty e c.requires.ends c.requires.typed
    (subst P c.as_slice.ensures.value c.in_ok-a.ensures.term) c.in_ok-v.ensures

pub returns-clause-loads : goal.returns-clause-loads
returns-clause-loads c =
    set_loads (stock_of c.args.store.now) (stock_of c.term.new.store) (stock_of c.cast_to.new.store) _ _ c.args.slots.now.items c.as_slice.result.now c.args.p (view_expression c.args.source.now.tables c.args.e.now)
    c.as_slice.ensures.value c.in_ok-v.ensures.grows c.in_ok-a.ensures.loads
