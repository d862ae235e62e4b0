use Rattle.std.proofs.Common.{◌*◌, length}
use Rattle.ix_problem.proofs.reach.reach_of.Goals as goal
use Rattle.std.proofs.Common.{sym, ◌∙◌, arith}
use Rattle.ix_problem.proofs.Reaching.{best_small}

pub overflow_add-result : goal.overflow_add-result
overflow_add-result c =
    let best = best_small c.args.reaches.now c.args.starts.now (length c.args.reaches.now * 4294967295) c.in-Some.best c.requires.small (sym c.best_start.ensures ∙ c.in-Some.is) in
    omega (arith, best, c.requires.few, c.from-in-Some.ensures, c.ranges.delay.fits)
