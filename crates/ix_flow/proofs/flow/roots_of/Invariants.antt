use Rattle.ix_terms.specs.Stores.{stock_of}
use Rattle.ix_flow.proofs.Rooting.{IsRooting}
use Rattle.ix_flow.proofs.flow.roots_of.Given as goal

abbrev pub invariant-loop-number : goal.invariant-loop-number
invariant-loop-number l = IsRooting (stock_of l.fn.store) (stock_of l.store) l.targets l.fn.roots.items l.roots.items l.number
