use Rattle.std.proofs.Common.{◌≡◌, ◌-◌, ◌++◌, map, take, None}
use Rattle.std.specs.Prelude.{replicate}
use Rattle.rv_past.specs.Making.{cell_from}
use Rattle.rv_past.proofs.making.cells_made.Given as goal

abbrev pub invariant-loop-stage : goal.invariant-loop-stage
invariant-loop-stage l = l.all ≡ map (cell_from l.image) (take l.stage l.cells) ++ replicate (5 - l.stage) None
