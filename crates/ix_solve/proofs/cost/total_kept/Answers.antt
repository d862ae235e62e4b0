use Rattle.std.proofs.Common.{arith}
use Rattle.ix_residual.proofs.Counts.{few_edges}
use Rattle.ix_solve.proofs.cost.total_kept.Goals as goal

pub overflow_add-total : goal.overflow_add-total
overflow_add-total c =
    let few = few_edges c.args.p.now c.requires.valid in
    omega (arith, c.loop-index.invariant.low, c.kept-total.ensures.low)

pub returns-clause-low : goal.returns-clause-low
returns-clause-low c =
    let few = few_edges c.args.p.now c.requires.valid in
    omega (arith, c.loop-index.invariant.low)
