use Rattle.std.proofs.Common.{take}
use Rattle.std.specs.List.{AllZip}
use Rattle.ix_vnets.specs.Nets.{IsMadeOf}
use Rattle.ix_vnets.proofs.nets.nets_in.Given as goal

abbrev pub invariant-loop-module : goal.invariant-loop-module
invariant-loop-module l = AllZip IsMadeOf (take l.«module» l.modules) l.nets
