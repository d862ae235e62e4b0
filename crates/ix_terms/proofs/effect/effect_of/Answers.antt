use Rattle.std.proofs.Common.{sym, subst}
use Rattle.ix_mean.specs.Core.{Statement}
use Rattle.ix_mean.specs.Typing.{IsTypedStatement}
use Rattle.ix_mean.specs.View.{frame_of}
use Rattle.ix_mean.proofs.Executing.{block_view}
use Rattle.ix_terms.specs.Stores.{stock_of}
use Rattle.ix_terms.specs.Effected.{HasEffect}
use Rattle.ix_terms.proofs.Starting.{effect_made}
use Rattle.ix_terms.proofs.effect.effect_of.Goals as goal

pub run_all-requires-clause-typed : goal.run_all-requires-clause-typed
run_all-requires-clause-typed c = subst (IsTypedStatement (frame_of c.args.source.now.types)) (sym (block_view c.args.source.now.tables c.args.body.now)) c.requires

pub returns : goal.returns
returns c =
    let f = c.args.source.now in
    let P : Statement → Type 0 = λ z. HasEffect f z (record { store = c.run_all.new.store; loads = c.run_all.new.loads; targets = c.run_all.new.targets }) in
    subst P (block_view f.tables c.args.body.now)
    (effect_made f (stock_of c.start.new.store) c.in_ok-p.p c.in_ok-ends.ends c.new-loads.result.items c.run_all.new.slots.items _ _ c.in_ok-ends.ensures.path c.in_ok-ends.ensures.is c.in_ok-ends.ensures.ends c.new-loads.ensures.items
    c.in_ok-run_all.ensures.ends c.in_ok-run_all.ensures.loads)
