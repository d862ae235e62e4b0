use Rattle.std.proofs.Common.{arith}
use Rattle.std.proofs.lemmas.Grind.{common_steps}
use Rattle.ix_net.proofs.StepLemmas.{all_step}
use Rattle.ix_net.specs.declared.netlist.Cell.{Cell}
use Rattle.ix_vprint.specs.Short.{IsShort}
use Rattle.ix_vprint.proofs.printing.put_cells.Goals as goal

pub loop-cell-preserved : goal.loop-cell-preserved
loop-cell-preserved c = record {
  so_far = grind (arith, common_steps);
  short = all_step (λ (x : Cell). IsShort x.target) c.args.cells.now c.loop-cell.cell-index c.cell-item.result (omega (arith, c.loop-cell-test.true)) c.cell-item.is c.loop-cell.invariant.short c.in_ok-put_cell.ensures.short;
}
