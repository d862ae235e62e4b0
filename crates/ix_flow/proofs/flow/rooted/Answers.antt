use Rattle.ix_mean.specs.View.{view_statements}
use Rattle.ix_terms.specs.Stores.{stock_of}
use Rattle.ix_flow.proofs.Flowing.{targets_few, rooted_made}
use Rattle.ix_flow.proofs.flow.rooted.Goals as goal

pub roots_of-requires-clause-few : goal.roots_of-requires-clause-few
roots_of-requires-clause-few c =
    targets_few c.args.source.now (view_statements c.args.source.now.tables c.args.body.now) c.in_ok-effect.effect c.as_slice.result.now c.in_ok-effect.ensures c.requires.typed c.as_slice.ensures.value c.requires.few_targets

pub returns : goal.returns
returns c =
    rooted_made c.args.source.now (view_statements c.args.source.now.tables c.args.body.now) c.in_ok-effect.effect (stock_of c.roots_of.new.store) c.as_slice.result.now _ c.in_ok-effect.ensures c.as_slice.ensures.value c.in_ok-roots_of.ensures
