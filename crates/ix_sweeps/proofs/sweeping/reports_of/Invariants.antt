use Rattle.std.proofs.Common.{map}
use Rattle.ix_sweeps.specs.Sweeping.{period_of, AreReportsAt}
use Rattle.ix_sweeps.proofs.sweeping.reports_of.Given as goal

abbrev pub invariant-loop-entry : goal.invariant-loop-entry
invariant-loop-entry l = AreReportsAt l.name l.graph l.sheet l.block (map period_of l.yielded) l.reports
