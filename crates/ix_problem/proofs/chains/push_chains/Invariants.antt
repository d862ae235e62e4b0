use Rattle.ix_problem.specs.Reaches.{HasChains}
use Rattle.ix_problem.proofs.chains.push_chains.Given as goal

abbrev pub invariant-sources : goal.invariant-sources
invariant-sources l = HasChains l.p l.source l.initial.bounds l.bounds
