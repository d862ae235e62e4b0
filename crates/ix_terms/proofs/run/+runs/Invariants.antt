use Rattle.std.proofs.Common.{drop}
use Rattle.ix_mean.specs.declared.resolved.ResolvedStmt.{Block}
use Rattle.ix_mean.specs.View.{view_statement, view_statements}
use Rattle.ix_terms.specs.Stores.{stock_of}
use Rattle.ix_terms.specs.Ends.{IsDoing}
use Rattle.ix_terms.proofs.run.+runs.Given as goal

abbrev pub invariant-run_all-loop-x : goal.invariant-run_all-loop-x
invariant-run_all-loop-x l =
    IsDoing l.source (stock_of l.fn.store) (stock_of l.store) l.p l.fn.slots.items l.slots.items l.fn.targets.items l.targets.items l.fn.loads.items l.loads.items (view_statement l.source.tables (Block l.all)) (view_statements l.source.tables (drop l.x-index l.all))
