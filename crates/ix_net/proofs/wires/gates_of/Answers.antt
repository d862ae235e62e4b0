use Rattle.ix_net.specs.declared.netlist.Cell.{Cell}
use Rattle.ix_net.specs.Signals.{width_of}
use Rattle.ix_net.specs.Forms.{Fits}
use Rattle.ix_net.specs.Wiring.{cell_gate}
use Rattle.ix_net.proofs.StepLemmas.{all_step, map_step}
use Rattle.ix_net.proofs.wires.gates_of.Goals as goal

pub loop-cell-preserved : goal.loop-cell-preserved
loop-cell-preserved c =
    let i = c.loop-cell.cell-index in
    let x : Cell = c.cell-item.result in
    record {
      fit = all_step (λ (c' : Cell). Fits (width_of c.args.table.now) c'.width c'.form) c.args.cells.now i x c.loop-cell-test.true c.cell-item.is c.loop-cell.invariant.fit c.in-Some.ensures.0;
      made = map_step (cell_gate c.args.table.now) c.args.cells.now i x c.loop-cell.gates.items c.push.new.self.items c.in-Some.gate c.loop-cell-test.true c.cell-item.is c.loop-cell.invariant.made
          c.in_ok-push-in-Some.ensures.items c.in-Some.ensures.1;
    }
