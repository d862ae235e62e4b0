use Rattle.std.proofs.Common.{sym, arith}
use Rattle.rv_marks.proofs.Cells.{with_cell_past}
use Rattle.rv_marks.proofs.moving.with_cell.Goals as goal

pub returns-else-stage-lt5 : goal.returns-else-stage-lt5
returns-else-stage-lt5 c = sym (with_cell_past c.args.stage c.args.cell c.args.cells.now (omega (arith, c.if-stage-lt5.false, c.told-cells)))
