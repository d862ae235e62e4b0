use Rattle.std.proofs.Common.{◌≡◌, ◌-◌, ◌++◌, take, None}
use Rattle.std.specs.Prelude.{replicate}
use Rattle.rv_barrel.specs.Showing.{cells_from}
use Rattle.rv_barrel.proofs.showing.cells_of.Given as goal

abbrev pub invariant-loop-stage : goal.invariant-loop-stage
invariant-loop-stage l = l.all ≡ cells_from l.hart l.event 0 (take l.stage l.slots) ++ replicate (5 - l.stage) None
