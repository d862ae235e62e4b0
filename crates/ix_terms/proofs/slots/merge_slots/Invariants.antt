use Rattle.ix_terms.specs.Stores.{stock_of}
use Rattle.ix_terms.proofs.Merged.{Merging}
use Rattle.ix_terms.proofs.slots.merge_slots.Given as goal

abbrev pub invariant-loop-k : goal.invariant-loop-k
invariant-loop-k l = Merging (stock_of l.fn.store) (stock_of l.store) l.c l.xs l.ys l.out.items l.k
