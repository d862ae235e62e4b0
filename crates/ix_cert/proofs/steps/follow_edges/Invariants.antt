use Rattle.ix_cert.specs.Faults.{times_of}
use Rattle.ix_cert.specs.Checks.{AreReached, AreSmall}
use Rattle.ix_cert.proofs.steps.follow_edges.Given as goal

abbrev pub invariant-edges : goal.invariant-edges
invariant-edges l = AreReached l.b.problem (times_of l.b) l.at l.reach × AreSmall l.reach
