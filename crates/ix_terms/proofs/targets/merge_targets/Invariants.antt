use Rattle.ix_terms.specs.Stores.{stock_of}
use Rattle.ix_terms.proofs.Entries.{MergingAll}
use Rattle.ix_terms.proofs.targets.merge_targets.Given as goal

abbrev pub invariant-loop-k : goal.invariant-loop-k
invariant-loop-k l = MergingAll (stock_of l.fn.store) (stock_of l.store) l.c l.xs l.ys l.out.items l.k
