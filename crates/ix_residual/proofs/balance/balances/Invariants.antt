use Rattle.ix_residual.specs.Counts.{IsCountedTo}
use Rattle.ix_residual.proofs.balance.balances.Given as goal

abbrev pub invariant-edges : goal.invariant-edges
invariant-edges l = IsCountedTo l.p l.index l.left.items
