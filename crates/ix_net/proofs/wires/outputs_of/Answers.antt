use Rattle.ix_net.specs.declared.netlist.Port.{Port}
use Rattle.ix_net.specs.Signals.{number_of}
use Rattle.ix_net.specs.Wiring.{IsCellPort}
use Rattle.ix_net.proofs.StepLemmas.{all_step, map_step}
use Rattle.ix_net.proofs.wires.outputs_of.Goals as goal

pub loop-output-preserved : goal.loop-output-preserved
loop-output-preserved c =
    let i = c.loop-output.output-index in
    let x : Port = c.output-item.result in
    record {
      fit = all_step (IsCellPort c.args.table.now c.args.inputs c.args.cells) c.args.outputs.now i x c.loop-output-test.true c.output-item.is c.loop-output.invariant.fit c.in-Some.ensures.0;
      made = map_step (λ (p : Port). number_of c.args.table.now p.name) c.args.outputs.now i x c.loop-output.places.items c.push.new.self.items c.in-Some.place c.loop-output-test.true c.output-item.is c.loop-output.invariant.made
          c.in_ok-push-in-Some.ensures.items c.in-Some.ensures.1;
    }
