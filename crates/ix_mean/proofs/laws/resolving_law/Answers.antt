use Rattle.ix_mean.proofs.Resolvings.{resolving_law}
use Rattle.ix_mean.proofs.Steps.{step_law}
use Rattle.ix_mean.proofs.NamedReads.{reads_law}
use Rattle.ix_mean.proofs.laws.resolving_law.Goals as goal

pub returns-clause-numbers : goal.returns-clause-numbers
returns-clause-numbers c = resolving_law

pub returns-clause-effects : goal.returns-clause-effects
returns-clause-effects c = step_law

pub returns-clause-reads : goal.returns-clause-reads
returns-clause-reads c = reads_law
