use Rattle.std.proofs.Common.{◌∙◌, ◌-◌, ◌++◌, ap, map, take, List, Option, None, arith}
use Rattle.std.specs.Prelude.{replicate}
use Rattle.std.proofs.Math.ListN.{set}
use Rattle.rv_trace.specs.declared.row.Cell.{Cell}
use Rattle.rv_past.specs.Making.{cell_from}
use Rattle.rv_past.proofs.Cells.{more_cells}
use Rattle.rv_past.proofs.making.cells_made.Goals as goal

pub loop-stage-preserved : goal.loop-stage-preserved
loop-stage-preserved c =
    let f = cell_from c.args.image.now in
    let n = c.loop-stage.stage in
    ap (λ (l : List (Option Cell)). set l n c.cell_made.result) c.loop-stage.invariant
    ∙ ap (λ (e : Option Cell). set (map (cell_from c.args.image.now) (take c.loop-stage.stage c.args.cells.now) ++ replicate (5 - c.loop-stage.stage) None) c.loop-stage.stage e) c.cell_made.ensures
    ∙ more_cells (cell_from c.args.image.now) None c.args.cells.now c.loop-stage.stage 5 None (omega (arith, c.told-cells, c.requires, c.loop-stage-test.true)) (omega (arith, c.requires, c.loop-stage-test.true))
