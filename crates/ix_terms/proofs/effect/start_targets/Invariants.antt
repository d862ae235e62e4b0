use Rattle.ix_terms.specs.Stores.{stock_of}
use Rattle.ix_terms.proofs.Starting.{IsUnwritten}
use Rattle.ix_terms.proofs.effect.start_targets.Given as goal

abbrev pub invariant-loop-ty : goal.invariant-loop-ty
invariant-loop-ty l = IsUnwritten (stock_of l.fn.store) (stock_of l.store) l.types l.out.items l.ty-index
