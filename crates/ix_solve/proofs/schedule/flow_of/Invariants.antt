use Rattle.std.proofs.Common.{◌≡◌, take}
use Rattle.ix_solve.specs.Answers.{used}
use Rattle.ix_solve.proofs.schedule.flow_of.Given as goal

abbrev pub invariant-places : goal.invariant-places
invariant-places l = l.flow ≡ used (take l.place l.bounds) (take l.place l.amounts)
