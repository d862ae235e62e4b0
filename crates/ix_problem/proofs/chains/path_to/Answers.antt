use Rattle.ix_problem.proofs.chains.path_to.Goals as goal
use Rattle.ix_problem.proofs.Trails.{parent_less}

pub back-smaller : goal.back-smaller
back-smaller c = parent_less c.args.source c.back.at c.parent_of-at.result c.args.reaches.now c.requires.back c.parent_of-at.ensures c.back-test.true
