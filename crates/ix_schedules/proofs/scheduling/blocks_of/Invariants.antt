use Rattle.std.proofs.Common.{take}
use Rattle.ix_extension.specs.Extensions.{view_extension}
use Rattle.ix_schedules.specs.Scheduling.{AreReported}
use Rattle.ix_schedules.proofs.scheduling.blocks_of.Given as goal

abbrev pub invariant-loop-which : goal.invariant-loop-which
invariant-loop-which l = AreReported (view_extension l.ext) l.sheet (take l.which-index l.list) l.blocks
