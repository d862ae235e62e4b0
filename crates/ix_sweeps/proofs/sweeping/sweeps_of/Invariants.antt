use Rattle.std.proofs.Common.{take}
use Rattle.ix_extension.specs.Extensions.{view_extension}
use Rattle.ix_sweeps.specs.Sweeping.{AreSwept}
use Rattle.ix_sweeps.proofs.sweeping.sweeps_of.Given as goal

abbrev pub invariant-loop-which : goal.invariant-loop-which
invariant-loop-which l = AreSwept (view_extension l.ext) l.sheet (take l.which-index l.list) l.sweeps
