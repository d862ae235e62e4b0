use Rattle.std.proofs.Common.{arith, ◌∙◌}
use Rattle.ix_residual.proofs.Counts.{all_counted}
use Rattle.ix_residual.proofs.balance.balances.Goals as goal

pub returns : goal.returns
returns c = c.from_vec.ensures ∙ all_counted c.args.p.now c.edges.index c.edges.left.items (omega arith) c.edges.invariant
