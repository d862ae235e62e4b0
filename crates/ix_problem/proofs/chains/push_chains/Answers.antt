use Rattle.ix_problem.specs.Reaches.{AreAllStarts}
use Rattle.ix_problem.proofs.chains.push_chains.Goals as goal
use Rattle.std.proofs.Common.{subst, sym}
use Rattle.ix_problem.proofs.ChainLists.{has_next}

pub push_chains_from-requires-clause-all : goal.push_chains_from-requires-clause-all
push_chains_from-requires-clause-all c = subst (AreAllStarts c.args.p.now) (sym c.as_slice.ensures.value) c.in_ok-starts.ensures.all

pub sources-preserved : goal.sources-preserved
sources-preserved c =
    has_next c.args.p.now c.sources.source c.args.bounds.now c.sources.bounds c.push_chains_from.new.bounds c.requires.valid c.sources.invariant c.in_ok-push_chains_from.ensures
