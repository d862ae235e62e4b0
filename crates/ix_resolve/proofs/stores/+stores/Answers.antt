use Rattle.std.proofs.Common.{◌≡◌, ◌∙◌, ap, sym, List}
use Rattle.ix_mean.specs.declared.resolved.ResolvedStmt.{ResolvedStmt}
use Rattle.ix_mean.specs.View.{view_statement, view_statements}
use Rattle.ix_mean.proofs.Executing.{block_view}
use Rattle.ix_behaviour.specs.Behaviours.{stored_in}
use Rattle.ix_resolve.proofs.stores.+stores.Goals as goal

pub stored-returns-in-Block : goal.stored-returns-in-Block
stored-returns-in-Block t c = λ tables.
    c.stored_first.ensures tables
    ∙ ap (λ (xs : List ResolvedStmt). stored_in (view_statements tables xs)) c.as_slice.ensures
    ∙ sym (ap (λ (z : ResolvedStmt). stored_in (view_statement tables z)) c.in-Block.is ∙ ap stored_in (block_view tables c.in-Block.all))
