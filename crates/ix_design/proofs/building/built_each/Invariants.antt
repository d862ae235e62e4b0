use Rattle.std.proofs.Common.{take}
use Rattle.ix_extension.specs.Extensions.{view_extension}
use Rattle.ix_design.specs.Building.{AreBuiltInTurn}
use Rattle.ix_design.proofs.building.built_each.Given as goal

abbrev pub invariant-loop-which : goal.invariant-loop-which
invariant-loop-which l = AreBuiltInTurn (view_extension l.ext) l.sheet (take l.which-index l.list) l.plans l.nets
